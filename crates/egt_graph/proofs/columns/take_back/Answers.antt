use Rattle.std.proofs.Common.{◌<◌, length, get_or, arith}
use Rattle.egt_graph.proofs.Steps.{still_waits, TakesBack_more}
use Rattle.egt_graph.proofs.columns.take_back.Goals as goal

pub take_back_move-requires-clause-waited : goal.take_back_move-requires-clause-waited
take_back_move-requires-clause-waited c =
    still_waits c.args.waits.now c.loop-node.waits c.args.nodes.now c.loop-node.node-index c.loop-node.invariant.waiting c.requires.waited c.loop-node-test.true

pub loop-node-preserved : goal.loop-node-preserved
loop-node-preserved c =
    let in_range : get_or c.args.nodes.now c.loop-node.node-index 0 < length c.args.entries.now = c.requires.within c.loop-node.node-index 0 c.loop-node-test.true in
    let some = still_waits c.args.waits.now c.loop-node.waits c.args.nodes.now c.loop-node.node-index c.loop-node.invariant.waiting c.requires.waited c.loop-node-test.true in
    rw (c.take_back_move.ensures.waits, c.take_back_move.ensures.entries)
    (TakesBack_more c.args.entries.now c.args.waits.now c.loop-node.entries c.loop-node.waits c.args.nodes.now c.args.plies c.loop-node.node-index
    c.loop-node.invariant c.loop-node-test.true (omega arith) (omega arith) some)
