use Rattle.std.specs.Prelude.{◌+◌, take}
use Rattle.egt_graph.specs.Prelude.{Finds, led_from}
use Rattle.egt_graph.proofs.nearing.mark_sources.Given as goal

abbrev pub invariant-loop-node : goal.invariant-loop-node
invariant-loop-node g l = Finds l.initial.entries (led_from (g.G.Game.graph l.game) (take l.node-index l.found)) (l.round + 1) l.entries
