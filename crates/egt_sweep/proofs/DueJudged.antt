-- Entries that are due to the greatest scores of all moves keep the rules.
use Rattle.std.proofs.Common.{◌≡◌, ◌≢◌, ℕ, ◌+◌, Bool, true, false, inl, inr, refl, subst, arith}
use Rattle.egt_sweep.specs.FillPrelude.{cases_eq, K, Side, code_of, kind_less, number_in, ShelfMen, TableValue, Tables}
use Rattle.egt_sweep.specs.FillPrelude.{AreTablesOf, four_in, tables_in, AreAllScoresOf, AreJudged, IsRightLane, KeepsPart}
use Rattle.egt_sweep.specs.FillPrelude.{Children, FourMenTables, Part, AreAllDue, AreDue}

-- entries of a part that are due to the greatest scores of all moves keep the rules, one by one
abbrev pub DueAreRight : Type 0
DueAreRight = (part : Part) (tables : Tables) (four : FourMenTables) (men : ShelfMen) (side : Side) (targeted : Bool) (a b i score zeroing : ℕ) → AreTablesOf (tables_in part tables) (four_in part four) men → men.first.kind ≢ K → men.last.kind ≢ K
    → IsRightLane part targeted four.own men side a b i score zeroing → AreAllScoresOf part targeted four men side a b score zeroing → KeepsPart part tables four.own i

module _ (right : DueAreRight) (part : Part) (tables : Tables) (four : FourMenTables) (men : ShelfMen) (are : AreTablesOf (tables_in part tables) (four_in part four) men) (one : men.first.kind ≢ K) (last : men.last.kind ≢ K)
    (t : TableValue) (own : four.own ≡ t) (children : Children) (same : four.children ≡ children) where
  own_judged : (targeted : Bool) (first : ℕ) (side : Side) → AreDue part targeted four.own children men first side → AreJudged part tables four.own men first side
  own_judged targeted first side due = λ x y x_in y_in.
      let lane = due x y x_in y_in in
      let a = x + kind_less men.first.kind in
      let b = y + kind_less men.last.kind in
      right part tables four men side targeted a b (code_of four.own.class (number_in four.own.class (first + x) side y)) lane.0 lane.1 are one last lane.2 (lane.3 four refl same)

  pub due_judged : (targeted : Bool) (first : ℕ) (side : Side) → AreDue part targeted t children men first side → AreJudged part tables t men first side
  due_judged targeted first side = subst (λ (u : TableValue). AreDue part targeted u children men first side → AreJudged part tables u men first side) own (own_judged targeted first side)

  pub all_due_judged : (first half : ℕ) (side : Side) → AreAllDue part t children men first half side → AreJudged part tables t men first side × AreJudged part tables t men (first + half) side
  all_due_judged first half side due =
      let plain = due_judged false first side due.plain in
      elim (cases_eq half 0) [
        | inl none ↦ (plain, subst (λ n. AreJudged part tables t men n side) (let e : first ≡ first + half = omega (arith, none) in e) plain)
        | inr some ↦ (plain, due_judged true (first + half) side (due.targeted some))
      ]
