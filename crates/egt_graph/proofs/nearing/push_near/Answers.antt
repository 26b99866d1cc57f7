use Rattle.std.proofs.Common.{◌∙◌}
use Rattle.egt_graph.proofs.Nearby.{nearing_more}
use Rattle.egt_graph.proofs.nearing.push_near.Goals as goal

pub returns : goal.returns
returns g c =
    let is = c.as_slice.ensures.value ∙ c.exits_of-exits.ensures in
    nearing_more (g.G.Game.graph c.args.game.now) c.args.node c.args.run.now c.requires.begun _ c.near_at_once.ensures _
    c.in_ok-push.ensures.items (rw is at c.in_ok-schedule_exits.ensures.losses) (rw is at c.in_ok-schedule_exits.ensures.wins)
