-- True tables show the values of positions.
use Rattle.std.proofs.Common.{◌≡◌, ◌≢◌, ℕ, ◌<◌, Bool, Option, Some, IfSome, IsSome, sym, ◌∙◌, subst, arith}
use Rattle.egt_sweep.specs.Prelude.{⊎_elim, Contains, Setup, IsAdmissible, children_of, IsOf, IsIndex, Value, HasValue}
use Rattle.egt_sweep.specs.Prelude.{chess, Leads, Move, Mate, Zeroing, TableValue, read_shown, Tables, beside, entry_at}
use Rattle.egt_sweep.specs.Prelude.{HasReachChildren, HasTrueChildren, HasTrueValuesBelow, Laws, ShowsValues}
use Rattle.egt_sweep.specs.Prelude.{shown_below}
use Rattle.egt_sweep.proofs.OutOfClass.{shown_is, beside_other}
use Rattle.egt_sweep.proofs.GameSteps.{ShowsLeft}

-- the position's value is known and shown
abbrev pub IsShown : Tables → Setup → Type 0
IsShown tables q = (v : Value) × HasValue chess q v × (shown_below tables 36 q ≡ v)

module _ (laws : Laws) (tables : Tables) where
  -- the table of its class shows it
  pub table_value : (d : ℕ) (flipped : Bool) (u : TableValue) (q : Setup) → d < 36 → tables d ≡ Some u → u.class ≡ d → ShowsValues u → IsAdmissible q → IsOf d flipped q → IsShown tables q
  table_value d flipped u q below found class values ok of =
      let index = laws.facts.some_index q d flipped below ok of in
      let told = values q index.0 ok (subst (λ c. IsIndex c q index.0) (sym class) index.1) in
      (told.0, told.1, shown_is laws tables d index.0 u q flipped below ok of found index.1 36 below (omega arith) ∙ read_shown (entry_at u Mate index.0) told.0 told.2)

  module _ (c : ℕ) (below : c < 36) (children : HasTrueValuesBelow tables c) where
    child_value : (q : Setup) → IsAdmissible q → (d : ℕ) × (turned : Bool) × Contains (children_of c) d × IsOf d turned q → IsShown tables q
    child_value q ok child =
        let u = children child.0 child.2 in
        let lt = laws.facts.child_below c child.0 below child.2 in
        table_value child.0 child.1 u.0 q (omega (arith, lt, below)) u.1 u.2 (λ p i p_ok is. u.3.true Mate p i p_ok is) ok child.3

    -- moves that leave the class lead to positions of its children
    pub mates_left : ShowsLeft (HasValue chess) tables Mate c
    mates_left p q m ok of leads off =
        let q_ok = laws.facts.step_admissible p q m ok leads in
        ⊎_elim
        (λ (own : IsOf c of.0 q). absurd (off (laws.facts.some_index q c of.0 below q_ok own)))
        (λ (child : (d : ℕ) × (turned : Bool) × Contains (children_of c) d × IsOf d turned q). child_value q q_ok child)
        (laws.facts.step_class p q m c of.0 below ok of.1 leads)

    module _ (u : TableValue) (found : tables c ≡ Some u) (class : u.class ≡ c) (values : ShowsValues u) where
      pub own_value : (p : Setup) (i : ℕ) → IsAdmissible p → IsIndex c p i → IsShown tables p
      own_value p i ok is = let own = laws.indexed_class p c i ok is in table_value c own.0 u p below found class values ok own.1

      -- every move leads to a position that is shown
      pub step_value : (p q : Setup) (m : Move) → IsAdmissible p → (flipped : Bool) × IsOf c flipped p → Leads p m q → IsShown tables q
      step_value p q m ok of leads =
          let q_ok = laws.facts.step_admissible p q m ok leads in
          ⊎_elim
          (λ (own : IsOf c of.0 q). table_value c of.0 u q below found class values q_ok own)
          (λ (child : (d : ℕ) × (turned : Bool) × Contains (children_of c) d × IsOf d turned q). child_value q q_ok child)
          (laws.facts.step_class p q m c of.0 below ok of.1 leads)

      pub zeroing_left : ShowsLeft (HasValue chess) tables Zeroing c
      zeroing_left p q m ok of leads off = step_value p q m ok of leads

-- the children's tables beside another of the class
pub beside_children : (laws : Laws) (tables : Tables) (t : TableValue) → t.class < 36 → HasTrueChildren tables t.class → HasTrueChildren (beside tables t) t.class
beside_children laws tables t below children d has =
    let child = children d has in
    let lt = laws.facts.child_below t.class d below has in
    let other : d ≢ t.class = (λ e. omega (arith, lt, e)) in
    (child.0, beside_other tables t d other ∙ child.1, child.2, child.3)

-- those with true columns of wins and losses
pub beside_values : (laws : Laws) (tables : Tables) (t : TableValue) → t.class < 36 → HasTrueValuesBelow tables t.class → HasTrueValuesBelow (beside tables t) t.class
beside_values laws tables t below children d has =
    let child = children d has in
    let lt = laws.facts.child_below t.class d below has in
    let other : d ≢ t.class = (λ e. omega (arith, lt, e)) in
    (child.0, beside_other tables t d other ∙ child.1, child.2, child.3)

-- those of which each has the column of the nearest mates
pub beside_reach : (laws : Laws) (tables : Tables) (t : TableValue) → t.class < 36 → HasReachChildren tables t.class → HasReachChildren (beside tables t) t.class
beside_reach laws tables t below reach d child =
    let lt = laws.facts.child_below t.class d below child in
    let other : d ≢ t.class = (λ e. omega (arith, lt, e)) in
    subst (λ (o : Option TableValue). IfSome o (λ u. IsSome u.reach)) (sym (beside_other tables t d other)) (reach d child)
