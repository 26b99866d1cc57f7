-- A table whose entries keep the rules beside the tables at hand is true, and a check accepts it.
use Rattle.std.specs.Prelude.{◌≡◌, ◌↔◌, Some}
use Rattle.egt_sweep.specs.Prelude.{TableValue, IsTable, IsAccepted, ReachesDown, KeepsRules, Tables, HasChildren}
use Rattle.egt_sweep.specs.Prelude.{beside, IsTrueTable, HasTrueChildren, Laws}
use Rattle.egt_sweep.proofs.OutOfClass.{beside_own}
use Rattle.egt_sweep.proofs.Shown.{beside_children, beside_reach}

-- beside true children true tables alone keep the rules
abbrev pub RulesTell : Type 0
RulesTell = (tables : Tables) (t : TableValue) → IsTable t → tables t.class ≡ Some t → HasTrueChildren tables t.class → ReachesDown tables t → KeepsRules tables t ↔ IsTrueTable t

module _ (laws : Laws) (tables : Tables) (t : TableValue) (table : IsTable t) (true_children : HasTrueChildren tables t.class) (down : ReachesDown tables t) where
  pub kept_is_true : RulesTell → KeepsRules (beside tables t) t → IsTrueTable t
  kept_is_true rules = (rules (beside tables t) t table (beside_own tables t) (beside_children laws tables t table.class_in true_children) (λ there. beside_reach laws tables t table.class_in (down there))).0

  pub true_is_accepted : HasChildren tables t.class → RulesTell → IsTrueTable t → IsAccepted tables t
  true_is_accepted children rules truth = record {
    children = children;
    reach_children = down;
    rules = (rules (beside tables t) t table (beside_own tables t) (beside_children laws tables t table.class_in true_children) (λ there. beside_reach laws tables t table.class_in (down there))).1 truth;
  }
