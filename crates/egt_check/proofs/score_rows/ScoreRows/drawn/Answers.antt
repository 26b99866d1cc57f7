use Rattle.std.proofs.Common.{◌≡◌, ◌∙◌, ◌<◌, ◌*◌, ◌/◌, ℕ, arith, below_more, subst}
use Rattle.egt_check.specs.Prelude.{Side, IsVoid, code_of, places, number_in, CodeScores, IsDrawnIndex}
use Rattle.egt_check.proofs.ScoreRowsRead.{whole_class}
use Rattle.egt_check.proofs.ScoresDrawn.{of_code}
use Rattle.egt_check.proofs.score_rows.ScoreRows.drawn.Goals as goal

pub loop-shelf-preserved : goal.loop-shelf-preserved
loop-shelf-preserved c =
    let class : ℕ = c.args.class in
    let old : CodeScores = c.loop-shelf.rows in
    let new : CodeScores = c.draw_shelf.new.self in
    let same : new.class ≡ old.class = c.draw_shelf.ensures.class in
    let was : old.class ≡ class = c.loop-shelf.invariant.class in
    let here = c.draw_shelf.ensures.drawn c.if-not-draw_shelf.false in
    record {
      class = same ∙ was;
      void = c.draw_shelf.ensures.void;
      few = c.draw_shelf.ensures.few c.loop-shelf.invariant.few;
      drawn = below_more _ _
          (λ shelf less side k k_in index. c.draw_shelf.ensures.kept _ (c.loop-shelf.invariant.drawn shelf less side k k_in (subst (λ n. ¬ IsVoid n (code_of class (number_in class shelf side k))) same index)))
          (subst (λ n. (side : Side) (k : ℕ) → k < places n → IsDrawnIndex new (code_of n (number_in n c.loop-shelf.shelf side k))) was here);
    }

pub returns-clause-drawn : goal.returns-clause-drawn
returns-clause-drawn c =
    let class : ℕ = c.args.class in
    let few = subst (λ n. n < 36) c.number-number.ensures.value c.number-number.ensures.below in
    let laws = c.numbers_stand_for_codes.ensures in
    let digits = c.last_digits.ensures.is in
    let some = c.last_digits.ensures.some in
    let shelves = whole_class class c.size.result c.last_digits.result c.size.ensures digits c.last_digits.ensures.whole in
    let end = c.loop-shelf-test.false in λ code below.
    of_code class (c.size.result / (2 * c.last_digits.result)) (IsDrawnIndex c.loop-shelf.rows) (omega (arith, some, digits)) shelves
    (λ shelf less side k k_in. c.loop-shelf.invariant.drawn shelf (omega (arith, less, end)) side k k_in) code (laws.code class code few below) (laws.within class code few below)
