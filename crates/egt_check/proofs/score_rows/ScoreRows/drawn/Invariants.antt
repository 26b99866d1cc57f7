use Rattle.std.specs.Prelude.{◌≡◌, ℕ, ◌<◌}
use Rattle.egt_check.specs.Prelude.{Side, code_of, places, number_in, AreDrawnOrNone, HasNoVoidScore, IsDrawnIndex}
use Rattle.egt_check.proofs.score_rows.ScoreRows.drawn.Given as goal

-- the indexes of the shelves so far are drawn
abbrev pub invariant-loop-shelf : goal.invariant-loop-shelf
invariant-loop-shelf l = record {
  class : l.rows.class ≡ l.fn.class;
  void : HasNoVoidScore l.rows;
  few : AreDrawnOrNone l.rows;
  drawn : (shelf : ℕ) → shelf < l.shelf → (side : Side) (k : ℕ) → k < places l.fn.class → IsDrawnIndex l.rows (code_of l.fn.class (number_in l.fn.class shelf side k));
}
