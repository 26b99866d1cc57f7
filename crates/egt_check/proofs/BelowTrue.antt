-- True tables of the children, column by column.
use Rattle.std.proofs.Common.{ℕ, IsSome, IfSome, Option, subst}
use Rattle.egt_check.specs.Prelude.{TableValue, Tables, HasReachChildren, HasTrueChildren, HasTrueReachesBelow}
use Rattle.egt_check.specs.Prelude.{HasTrueValues, HasTrueValuesBelow, IsTrueTable}

pub true_values : (t : TableValue) → IsTrueTable t → HasTrueValues t
true_values t truth = record { void = truth.void; true = truth.true }

module _ (tables : Tables) (c : ℕ) (children : HasTrueChildren tables c) where
  pub values_below : HasTrueValuesBelow tables c
  values_below d child = let u = children d child in (u.0, u.1, u.2, true_values u.0 u.3)

  pub reaches_below : HasReachChildren tables c → HasTrueReachesBelow tables c
  reaches_below down d child =
      let u = children d child in
      let there : IsSome u.0.reach = subst (λ (o : Option TableValue). IfSome o (λ v. IsSome v.reach)) u.1 (down d child) in
      (u.0, u.1, u.2, there, u.3.reach there)
