use Rattle.std.proofs.Common.{false, true, subst, sym}
use Rattle.egt_check.specs.Prelude.{at, AreAllScoresOf, Part}
use Rattle.egt_check.proofs.block_judging.raise_part_passing.Goals as goal

pub returns-in-Values : goal.returns-in-Values
returns-in-Values c = λ a b a_in b_in.
    subst (λ (part : Part). AreAllScoresOf part false c.args.moves.now.four.now c.args.moves.now.men.now c.args.moves.now.side a b (at c.args.scores.now a b) (at c.args.zeroing.now a b)
    → AreAllScoresOf part true c.args.moves.now.four.now c.args.moves.now.men.now c.args.moves.now.side a b (at c.raise_passing.new.mates a b) (at c.raise_passing.new.zeroing a b)) (sym c.in-Values.is) (c.raise_passing.ensures a b a_in b_in)
