use Rattle.egt_sweep.proofs.NodeTests.{none_missing}
use Rattle.egt_sweep.proofs.nodes.node.Goals as goal

pub position_of-requires : goal.position_of-requires
position_of-requires c = λ void. none_missing c.laws.ensures c.args.class c.args.index void c.requires
