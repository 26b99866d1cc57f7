-- The entries of the column of the nearest mates, read as mate entries.
use Rattle.std.proofs.Common.{◌≡◌, ℕ, zero, suc, ◌≤◌, List, [], ◌∷◌, map, Option, Some, None, IsSome, slice_index, refl}
use Rattle.std.proofs.Common.{ap, ◌∙◌, arith}
use Rattle.egt_sweep.specs.Prelude.{false≢true, Value, Loss, Draw, Shows, near_entry, near_if, near_of, near_table}
use Rattle.egt_sweep.specs.Prelude.{near_tables, ShowsReach, Tables, TableValue, entries_or_none}

-- how far the nearest mate is, told as a loss in as many plies, and as a draw where there is none
abbrev pub near_of_entry : Option ℕ → Value
near_of_entry (Some n) = Loss n
near_of_entry None = Draw

pub near_shown : (x : ℕ) (number : Option ℕ) → ShowsReach x number → Shows (near_entry x) (near_of_entry number)
near_shown x (Some n) s = (s.0, omega (arith, s.1))
near_shown x None s = (tt, omega (arith, s.1))

pub slice_near : (xs : List ℕ) (i : ℕ) → slice_index (map near_entry xs) i ≡ near_entry (slice_index xs i)
slice_near [] i = refl
slice_near (x ∷ xs) zero = refl
slice_near (x ∷ xs) (suc i) = slice_near xs i

-- a table that has the column has a near table
of_column : (c : ℕ) (entries : Option (List ℕ)) → IsSome entries → near_if c entries ≡ Some (near_table c (entries_or_none entries))
of_column c h1 some = grind (arith, false≢true)

pub near_found : (tables : Tables) (d : ℕ) (u : TableValue) → tables d ≡ Some u → IsSome u.reach → near_tables tables d ≡ Some (near_table u.class (entries_or_none u.reach))
near_found tables d u found there = ap near_of found ∙ of_column u.class u.reach there

-- and one that has a near table has the column
had : (c : ℕ) (entries : Option (List ℕ)) → IsSome (near_if c entries) → IsSome entries
had c h1 some = grind arith

pub near_has : (o : Option TableValue) → IsSome (near_of o) → (u : TableValue) × (o ≡ Some u) × IsSome u.reach
near_has h0 some = grind (arith, false≢true, had)

-- an entry that shows a number is not 0, and twice as much fits a word
pub shown_range : (x : ℕ) (number : Option ℕ) → ShowsReach x number → (1 ≤ x) × (x ≤ 32002)
shown_range x h1 s = grind arith
