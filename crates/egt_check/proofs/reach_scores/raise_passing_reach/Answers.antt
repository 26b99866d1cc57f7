use Rattle.egt_lanes.specs.Blocks.{at}
use Rattle.egt_check.proofs.reach_scores.raise_passing_reach.Goals as goal

pub returns : goal.returns
returns c = λ a b a_in b_in plain. record {
  plain = at c.args.out.now a b;
  passing = at c.args.passing.now a b;
  plain_is = plain;
  passing_are = c.requires a b a_in b_in;
  is = c.raise_to_max.ensures a b a_in b_in;
}
