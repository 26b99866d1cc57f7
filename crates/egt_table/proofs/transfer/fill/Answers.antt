use Rattle.std.proofs.Common.{arith, length-append}
use Rattle.egt_table.specs.Prelude.{length-take-le}
use Rattle.egt_table.proofs.Known.{consumes_more, take_across}
use Rattle.egt_table.proofs.transfer.fill.Goals as goal

pub loop-got-preserved : goal.loop-got-preserved
loop-got-preserved g c = grind (arith, length-take-le, length-append, consumes_more, take_across, c.loop-got.invariant.bound, c.in_ok-n.ensures.bound, c.loop-got.invariant.bytes, c.in_ok-n.ensures.bytes.0, c.in_ok-n.ensures.failures, c.loop-got.invariant.failures)
