use Rattle.std.proofs.Common.{◌+◌, length, count_by, ap, ap₂, ◌∙◌}
use Rattle.egt_graph.specs.Prelude.{list_any, is_loss, is_win_from}
use Rattle.egt_graph.proofs.Beginning.{Begun_more}
use Rattle.egt_graph.proofs.begin.push_node.Goals as goal

pub returns : goal.returns
returns g c =
    let is = c.as_slice-exits.ensures.value ∙ c.start_of-start.ensures.exits in
    rw (c.in_ok-push.ensures.items, c.in_ok-push-2.ensures.items, c.in_ok-push-3.ensures.items, c.in_ok-push-4.ensures.items)
    (Begun_more (g.G.Game.graph c.args.game.now) c.args.node _ _ _ _ _ _ c.requires.begun _ _ _ _ _ _
    c.start_of-start.ensures.entry
    (ap₂ (λ moves exits. moves + length exits) c.start_of-start.ensures.moves is)
    (c.count_wins.ensures ∙ ap (count_by (is_win_from 0)) is)
    (c.any_loss.ensures ∙ ap (list_any is_loss) is)
    (rw is at c.in_ok-schedule_exits.ensures.losses)
    (rw is at c.in_ok-schedule_exits.ensures.wins))
