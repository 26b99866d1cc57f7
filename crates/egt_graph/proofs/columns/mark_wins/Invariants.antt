use Rattle.std.specs.Prelude.{take}
use Rattle.egt_graph.specs.Prelude.{Marks}
use Rattle.egt_graph.proofs.columns.mark_wins.Given as goal

abbrev pub invariant-loop-node : goal.invariant-loop-node
invariant-loop-node l = Marks l.initial.entries (take l.node-index l.nodes) l.plies l.entries
