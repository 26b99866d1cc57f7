use Rattle.std.specs.Prelude.{max, refl}
use Rattle.egt_check.specs.Prelude.{at}
use Rattle.egt_check.proofs.Exits.{raised_twice, zeroed_alone, zeroing_of}
use Rattle.egt_table.specs.declared.column.Column.TheVariants.{Reach}
use Rattle.egt_check.proofs.reach_scores.reach_scores.Goals as goal

pub returns-then-not-has_pawn-clause-scores : goal.returns-then-not-has_pawn-clause-scores
returns-then-not-has_pawn-clause-scores c = λ told a b a_in b_in. record {
  quiet = at c.quiet_block.new.out a b;
  zeroed = at c.args.leaving.now a b;
  quiet_raised = c.quiet_block.ensures.raised c.if-not-quiet_block.false a b a_in b_in;
  zeroed_are = zeroed_alone Reach c.args.four.now c.args.men.now c.args.side a b (at c.args.leaving.now a b)
      (c.has_pawn.ensures.last c.if-not-has_pawn.true) (c.has_pawn.ensures.one c.if-not-has_pawn.true) (c.requires.leaving a b a_in b_in);
  is = c.raise_to_max.ensures a b a_in b_in;
}

pub returns-clause-scores : goal.returns-clause-scores
returns-clause-scores c = λ told a b a_in b_in.
    let leaving = at c.args.leaving.now a b in
    let pawns = at c.advances.new.out a b in record {
      quiet = at c.quiet_block.new.out a b;
      zeroed = max leaving pawns;
      quiet_raised = c.quiet_block.ensures.raised c.if-not-quiet_block.false a b a_in b_in;
      zeroed_are = zeroing_of Reach c.args.four.now c.args.men.now c.args.side a b leaving pawns (max leaving pawns)
          (c.requires.leaving a b a_in b_in) (c.advances.ensures.scores c.if-not-advances.false a b a_in b_in) refl;
      is = raised_twice (at c.quiet_block.new.out a b) leaving pawns (at c.raise_to_max.new.out a b) (at c.raise_to_max-2.new.out a b)
          (c.raise_to_max.ensures a b a_in b_in) (c.raise_to_max-2.ensures a b a_in b_in);
    }
