use Rattle.egt_graph.specs.Columns.{Amid, done_by}
use Rattle.egt_graph.proofs.step.take_in.Given as goal

abbrev pub invariant-loop-k : goal.invariant-loop-k
invariant-loop-k g l = Amid (g.G.Game.graph l._game) l.round (done_by l.posted l.nodes l.k) l.round l.round l.entries l.waits
