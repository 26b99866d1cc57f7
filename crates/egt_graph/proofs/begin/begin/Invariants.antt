use Rattle.egt_graph.specs.Begin.{IsBegun}
use Rattle.egt_graph.proofs.begin.begin.Given as goal

abbrev pub invariant-loop-node : goal.invariant-loop-node
invariant-loop-node g l =
    IsBegun (g.G.Game.graph l.game) l.node l.columns.entries.items l.columns.waits.items l.columns.later.items l.columns.lost.items l.columns.lost_due l.columns.won_due
