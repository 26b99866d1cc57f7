use Rattle.egt_graph.specs.Near.{IsNearing}
use Rattle.egt_graph.proofs.near_solver.nearest.Given as goal

abbrev pub invariant-loop-round : goal.invariant-loop-round
invariant-loop-round g l = IsNearing (g.G.Game.graph l.game) l.round l.run
