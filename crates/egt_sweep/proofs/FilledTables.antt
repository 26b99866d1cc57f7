-- Tables whose entries keep the rules beside the true tables of the children are true.
use Rattle.std.proofs.Common.{◌≡◌, ℕ, ◌<◌, ◌↔◌, ◌∙◌, None, Some, IsSome, IfSome, Option, arith, refl, subst, sym}
use Rattle.std.proofs.Common.{Contains}
use Rattle.egt_sweep.specs.FillPrelude.{false≢true, ne_eqb, children_of, IsIndex, IsVoid, size_of, IsTable, TableValue}
use Rattle.egt_sweep.specs.FillPrelude.{Shows, ReachesDown, KeepsReachBelow, KeepsRules, Tables, HasReachChildren}
use Rattle.egt_sweep.specs.FillPrelude.{beside, entry_at, HasTrueChildren, IsTrueReach, IsTrueTable, Metric, KeepsPart}
use Rattle.egt_sweep.specs.FillPrelude.{Part, Reach, Values, beside_other, beside_own, IsWithReach}

-- the part's entries keep the rules at all codes
abbrev pub KeepsAll : Part → Tables → TableValue → Type 0
KeepsAll part tables t = (i : ℕ) → i < size_of t.class → KeepsPart part tables t i

-- where another table stands beside those of its children, they are still there
module _ (smaller : (c d : ℕ) → c < 36 → Contains (children_of c) d → d < c) (tables : Tables) (t : TableValue) (is : IsTable t) where
  child_other : (d : ℕ) → Contains (children_of t.class) d → beside tables t d ≡ tables d
  child_other d child = let less = smaller t.class d is.class_in child in beside_other tables t d (ne_eqb d t.class (λ same. omega (arith, same, less)))

  beside_children : HasTrueChildren tables t.class → HasTrueChildren (beside tables t) t.class
  beside_children children d child = let there = children d child in (there.0, child_other d child ∙ there.1, there.2, there.3)

  beside_reach : HasReachChildren tables t.class → HasReachChildren (beside tables t) t.class
  beside_reach reach d child = subst (λ (o : Option TableValue). IfSome o (λ u. IsSome u.reach)) (sym (child_other d child)) (reach d child)

  pub values_are_true : HasTrueChildren tables t.class → t.reach ≡ None → KeepsAll Values (beside tables t) t →
      ((at_hand : Tables) (u : TableValue) → IsTable u → at_hand u.class ≡ Some u → HasTrueChildren at_hand u.class → ReachesDown at_hand u → KeepsRules at_hand u ↔ IsTrueTable u) → IsTrueTable t
  values_are_true children lacks keeps rules =
      let absent : ¬ IsSome t.reach = (λ there. false≢true (subst IsSome lacks there)) in
      (rules (beside tables t) t is (beside_own tables t t.class refl) (beside_children children) (λ there. absurd (absent there))).0
      (record { values = λ metric i below rule. keeps i below metric rule; reach = λ there. absurd (absent there) })

  pub reach_is_true : HasTrueChildren tables t.class → HasReachChildren tables t.class → IsSome t.reach → KeepsAll Reach (beside tables t) t →
      ((at_hand : Tables) (u : TableValue) → IsTable u → at_hand u.class ≡ Some u → HasTrueChildren at_hand u.class → ReachesDown at_hand u → IsSome u.reach → KeepsReachBelow at_hand u (size_of u.class) → IsTrueReach u) → IsTrueReach t
  reach_is_true children reach there keeps kept =
      kept (beside tables t) t is (beside_own tables t t.class refl) (beside_children children) (λ has. beside_reach reach) there (λ i below rule. keeps i below rule)

-- a true table stays true with a true column more
module _ (old new : TableValue) (with : IsWithReach old new) where
  entry_same : (metric : Metric) (i : ℕ) → entry_at old metric i ≡ entry_at new metric i
  entry_same h0 i = grind arith

  pub with_true_reach : IsTrueTable old → IsTrueReach new → IsTrueTable new
  with_true_reach truth reach = record {
    void = λ metric i below void. sym (entry_same metric i) ∙ truth.void metric i (subst (λ c. i < size_of c) with.class below) (subst (λ c. IsVoid c i) with.class void);
    true = λ metric p i ok is.
        let told = truth.true metric p i ok (subst (λ c. IsIndex c p i) with.class is) in
        (told.0, told.1, subst (λ entry. Shows entry told.0) (entry_same metric i) told.2);
    reach = λ there. reach;
  }
