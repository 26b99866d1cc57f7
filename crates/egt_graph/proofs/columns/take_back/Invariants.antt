use Rattle.std.specs.Prelude.{take}
use Rattle.egt_graph.specs.Prelude.{TakesBack}
use Rattle.egt_graph.proofs.columns.take_back.Given as goal

abbrev pub invariant-loop-node : goal.invariant-loop-node
invariant-loop-node l = TakesBack l.initial.entries l.initial.waits (take l.node-index l.nodes) l.plies l.entries l.waits
