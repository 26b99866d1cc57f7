-- The tables of a class's children are true, as a library says of each table that it has.
use Rattle.std.proofs.Common.{◌≡◌, ℕ, Option, Some, None, IsSome, IfSome, refl, sym}
use Rattle.egt_sweep.specs.Prelude.{false≢true, TableValue, Tables, HasChildren, IsTrueTable, HasTrueChildren}
use Rattle.egt_sweep.specs.Prelude.{HasNoFalseChild}

of_table : (d : ℕ) (o x : Option TableValue) → o ≡ x → IsSome o → IfSome o (λ t. (t.class ≡ d) × IsTrueTable t) → (t : TableValue) × (x ≡ Some t) × (t.class ≡ d) × IsTrueTable t
of_table d None x e some told = absurd (false≢true some)
of_table d (Some t) x e some told = (t, sym e, told.0, told.1)

pub true_children : (tables : Tables) (c : ℕ) → HasNoFalseChild tables c → HasChildren tables c → HasTrueChildren tables c
true_children tables c true children d has = of_table d (tables d) (tables d) refl (children d has) (true d has)
