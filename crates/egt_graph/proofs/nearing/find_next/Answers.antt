use Rattle.std.proofs.Common.{◌+◌}
use Rattle.egt_graph.proofs.Nearby.{found_in_turn}
use Rattle.egt_graph.proofs.nearing.find_next.Goals as goal

pub returns : goal.returns
returns g c =
    found_in_turn (g.G.Game.graph c.args.game.now) (c.args.round + 1) c.args.found.now c.args.lost.now c.args.won.now c.args.entries.now _ _ _
    c.mark_sources.ensures c.mark_wins.ensures c.mark_wins-2.ensures
