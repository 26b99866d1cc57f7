-- The positions of a class by its table in a library.
use Rattle.std.proofs.Common.{◌≡◌, ℕ, ◌<◌, Bool, IsSome, sym, subst, arith}
use Rattle.egt_probe.specs.Prelude.{⊎_elim, Contains, Side, Setup, IsAdmissible, children_of, IsOf, IsIndex, Value}
use Rattle.egt_probe.specs.Prelude.{HasValue, chess, Leads, HasZeroing, Move, TableValue, Metric, Mate, Zeroing, Shows}
use Rattle.egt_probe.specs.Prelude.{IsShelved, shown_once, Tables, entry_at, Tells, IsTrueTable, Outcome, Facts, Loaded}
use Rattle.egt_probe.specs.Prelude.{IsLoaded, ShowsValue, mate_value, zeroing_value}

module _ (t : TableValue) (truth : IsTrueTable t) where
  -- the entry shows what the column of the metric tells of the position
  pub told : (metric : Metric) (p : Setup) (i x : ℕ) → IsAdmissible p → IsIndex t.class p i → x ≡ entry_at t metric i → (v : Value) × Tells metric p v × Shows x v
  told metric p i x ok is e =
      let shown = truth.true metric p i ok is in
      (shown.0, shown.1, subst (λ (y : ℕ). Shows y shown.0) (sym e) shown.2)

  -- and what it shows is true
  pub true_if_shown : (metric : Metric) (p : Setup) (i x : ℕ) (v : Value) → IsAdmissible p → IsIndex t.class p i → x ≡ entry_at t metric i → Shows x v → Tells metric p v
  true_if_shown metric p i x v ok is e s =
      let shown = told metric p i x ok is e in
      subst (Tells metric p) (shown_once x shown.0 v shown.2 s) shown.1

  -- an outcome that both columns show of the side to move is true
  pub true_outcome : (p : Setup) (i x y : ℕ) (side : Side) (o : Outcome) → IsAdmissible p → IsIndex t.class p i → x ≡ entry_at t Mate i → y ≡ entry_at t Zeroing i → side ≡ p.side
      → Shows x (mate_value side o) → Shows y (zeroing_value side o) → HasValue chess p (mate_value p.side o) × HasZeroing chess p (zeroing_value p.side o)
  true_outcome p i x y side o ok is e f same mate zeroing = (
    subst (λ (s : Side). HasValue chess p (mate_value s o)) same (true_if_shown Mate p i x (mate_value side o) ok is e mate),
    subst (λ (s : Side). HasZeroing chess p (zeroing_value s o)) same (true_if_shown Zeroing p i y (zeroing_value side o) ok is f zeroing),
  )

  pub shows_value : (p : Setup) (i x : ℕ) → IsAdmissible p → IsIndex t.class p i → x ≡ entry_at t Mate i → ShowsValue p x
  shows_value p i x ok is e =
      let shown = told Mate p i x ok is e in
      record { value = shown.0; has = shown.1; shows = shown.2 }

module _ (tables : Tables) (c : ℕ) (t : TableValue) (shelved : IsShelved tables c t) where
  -- an index in the class is one in the class of the table
  pub index_there : (p : Setup) (i : ℕ) → IsIndex c p i → IsIndex t.class p i
  index_there p i is = subst (λ (d : ℕ). IsIndex d p i) (sym shelved.class) is

  -- each move leads to a position whose class is loaded
  pub step_loaded : Facts → (loaded : Loaded) (p q : Setup) (m : Move) (flipped : Bool) → ((d : ℕ) → IsSome (tables d) → IsSome (loaded d)) → IsSome (loaded c) → c < 36 → IsAdmissible p → IsOf c flipped p → Leads p m q → IsLoaded loaded q
  step_loaded facts loaded p q m flipped there own below ok of leads = ⊎_elim
      (λ (stays : IsOf c flipped q). record { class = c; of = record { below = below; flipped = flipped; of = stays }; there = own })
      (λ (goes : (d : ℕ) × (turned : Bool) × Contains (children_of c) d × IsOf d turned q). record {
        class = goes.0;
        of = record { below = child_in goes.0 (facts.child_below c goes.0 below goes.2) below; flipped = goes.1; of = goes.3 };
        there = there goes.0 (shelved.children goes.0 goes.2);
      })
      (facts.step_class p q m c flipped below ok of leads)
    where
      child_in : (d : ℕ) → d < c → c < 36 → d < 36
      child_in d lt le = omega arith
