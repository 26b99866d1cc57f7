use Rattle.std.proofs.Common.{get_or-set_other, arith}
use Rattle.egt_lanes.specs.Prelude.{length-set, cases_lt, get_or-set_at, at}
use Rattle.egt_lanes.proofs.block.raise_to_max.Goals as goal

pub loop-i-preserved : goal.loop-i-preserved
loop-i-preserved c = grind (arith, length-set, cases_lt, get_or-set_other, get_or-set_at, at, c.loop-i.invariant.done, c.greater.ensures, c.loop-i.invariant.left)
