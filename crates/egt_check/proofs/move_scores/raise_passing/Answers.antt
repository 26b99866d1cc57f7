use Rattle.egt_lanes.specs.Blocks.{at}
use Rattle.egt_check.proofs.move_scores.raise_passing.Goals as goal

pub returns : goal.returns
returns c = λ a b a_in b_in plain. record {
  plain_mate = at c.args.mates.now a b;
  plain_zeroing = at c.args.zeroing.now a b;
  passing = at c.args.passing.now a b;
  plain = plain;
  passing_are = c.requires a b a_in b_in;
  mate_is = c.raise_to_max.ensures a b a_in b_in;
  zeroing_is = c.raise_zeroed.ensures a b a_in b_in;
}
