use Rattle.std.proofs.Common.{ℕ, List, arith}
use Rattle.egt_lanes.specs.Prelude.{length-set}
use Rattle.egt_lanes.proofs.Weaving.{two_rows}
use Rattle.egt_lanes.proofs.block.interleaved.Goals as goal

pub loop-i-preserved : goal.loop-i-preserved
loop-i-preserved c = record {
  long = omega (arith, length-set {A = List ℕ});
  done = two_rows c.loop-i.out c.args.from.now c.woven.result.0 c.woven.result.1 c.loop-i.i (omega arith) (omega arith) c.loop-i.invariant.done c.woven.ensures.low c.woven.ensures.high;
}
