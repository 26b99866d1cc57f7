use Rattle.egt_graph.specs.Near.{IsNearingTo}
use Rattle.egt_graph.proofs.nearing.begin_nearing.Given as goal

abbrev pub invariant-loop-node : goal.invariant-loop-node
invariant-loop-node g l = IsNearingTo (g.G.Game.graph l.game) l.node l.run
