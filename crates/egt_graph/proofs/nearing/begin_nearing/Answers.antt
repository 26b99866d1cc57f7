use Rattle.std.proofs.Common.{arith}
use Rattle.egt_graph.proofs.Nearby.{nearing_begun}
use Rattle.egt_graph.proofs.nearing.begin_nearing.Goals as goal

pub returns : goal.returns
returns g c = grind (arith, nearing_begun, c.size-size.ensures, c.loop-node-test.false, c.loop-node.invariant)
