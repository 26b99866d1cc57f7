-- Which classes play can lead to: by captures and promotions, one after another.
use Rattle.std.specs.Prelude.{◌≡◌, ◌↔◌, ℕ, zero, suc, Bool, IsTrue, List, IsSome, slice_index_or, false}
use Rattle.egt_check.specs.Prelude.{Contains, children_of, Tables}

-- d comes from c by so many steps to a child
abbrev pub DescendsBy : ℕ → ℕ → ℕ → Type 0
DescendsBy zero c d = c ≡ d
DescendsBy (suc n) c d = (e : ℕ) × Contains (children_of c) e × DescendsBy n e d

-- by one step or more
abbrev pub Descends : ℕ → ℕ → Type 0
Descends c d = (n : ℕ) × DescendsBy (suc n) c d

-- the class is marked
abbrev pub IsMarked : List Bool → ℕ → Type 0
IsMarked marks d = IsTrue (slice_index_or marks d false)

-- exactly these classes have tables
abbrev pub HasExactly : Tables → (ℕ → Type 0) → Type 0
HasExactly tables P = (d : ℕ) → IsSome (tables d) ↔ P d
