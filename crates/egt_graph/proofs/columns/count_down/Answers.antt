use Rattle.egt_graph.proofs.Steps.{still_waits}
use Rattle.egt_graph.proofs.columns.count_down.Goals as goal

pub overflow_sub-later : goal.overflow_sub-later
overflow_sub-later c =
    still_waits c.args.later.now c.loop-node.later c.args.nodes.now c.loop-node.node-index c.loop-node.invariant c.requires.counted c.loop-node-test.true
