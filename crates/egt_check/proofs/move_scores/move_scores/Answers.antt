use Rattle.std.proofs.Common.{◌∙◌, max, ap, refl}
use Rattle.egt_check.specs.Prelude.{at, zeroing_score}
use Rattle.egt_check.proofs.ByteJudged.{zeroing_max}
use Rattle.egt_check.proofs.Exits.{raised_twice, zeroed_alone, zeroing_of}
use Rattle.egt_table.specs.declared.column.Column.TheVariants.{Mate}
use Rattle.egt_check.proofs.move_scores.move_scores.Goals as goal

pub returns-then-not-has_pawn-clause-scores : goal.returns-then-not-has_pawn-clause-scores
returns-then-not-has_pawn-clause-scores c = λ told a b a_in b_in. record {
  quiet_mate = at c.quiet_block.new.out a b;
  quiet_zeroing = at c.quiet_block-2.new.out a b;
  zeroed = at c.args.leaving.now a b;
  mate_raised = c.quiet_block.ensures.raised c.if-not-quiet_block.false a b a_in b_in;
  zeroing_raised = c.quiet_block-2.ensures.raised c.if-not-quiet_block-2.false a b a_in b_in;
  zeroed_are = zeroed_alone Mate c.args.moves.now.four.now c.args.moves.now.men.now c.args.moves.now.side a b (at c.args.leaving.now a b)
      (c.has_pawn.ensures.last c.if-not-has_pawn.true) (c.has_pawn.ensures.one c.if-not-has_pawn.true) (c.requires.leaving a b a_in b_in);
  mate_is = c.raise_to_max.ensures a b a_in b_in;
  zeroing_is = c.raise_zeroed.ensures a b a_in b_in;
}

pub returns-clause-scores : goal.returns-clause-scores
returns-clause-scores c = λ told a b a_in b_in.
    let leaving = at c.args.leaving.now a b in
    let pawns = at c.advances.new.out a b in record {
      quiet_mate = at c.quiet_block.new.out a b;
      quiet_zeroing = at c.quiet_block-2.new.out a b;
      zeroed = max leaving pawns;
      mate_raised = c.quiet_block.ensures.raised c.if-not-quiet_block.false a b a_in b_in;
      zeroing_raised = c.quiet_block-2.ensures.raised c.if-not-quiet_block-2.false a b a_in b_in;
      zeroed_are = zeroing_of Mate c.args.moves.now.four.now c.args.moves.now.men.now c.args.moves.now.side a b leaving pawns (max leaving pawns)
          (c.requires.leaving a b a_in b_in) (c.advances.ensures.scores c.if-not-advances.false a b a_in b_in) refl;
      mate_is = raised_twice (at c.quiet_block.new.out a b) leaving pawns (at c.raise_to_max.new.out a b) (at c.raise_to_max-2.new.out a b)
          (c.raise_to_max.ensures a b a_in b_in) (c.raise_to_max-2.ensures a b a_in b_in);
      zeroing_is =
          raised_twice (at c.quiet_block-2.new.out a b) (zeroing_score leaving) (zeroing_score pawns) (at c.raise_zeroed.new.out a b)
          (at c.raise_zeroed-2.new.out a b) (c.raise_zeroed.ensures a b a_in b_in) (c.raise_zeroed-2.ensures a b a_in b_in)
          ∙ ap (λ n. max (at c.quiet_block-2.new.out a b) n) (zeroing_max leaving pawns);
    }
