use Rattle.egt_graph.specs.Prelude.{get_or_default, is_win_of, is_loss_of}
use Rattle.egt_graph.proofs.Beginning.{Adds_more}
use Rattle.egt_graph.proofs.begin.schedule_exits.Goals as goal

pub loop-exit-preserved : goal.loop-exit-preserved
loop-exit-preserved c =
    let exits = c.args.exits.now in
    let k = c.loop-exit.exit-index in
    record {
      losses = Adds_more is_loss_of _ _ _ c.args.node exits k _ c.loop-exit.invariant.losses c.in_ok-schedule_exit.ensures.losses c.loop-exit-test.true
          (get_or_default exits k _ _ c.loop-exit-test.true);
      wins = Adds_more is_win_of _ _ _ c.args.node exits k _ c.loop-exit.invariant.wins c.in_ok-schedule_exit.ensures.wins c.loop-exit-test.true
          (get_or_default exits k _ _ c.loop-exit-test.true);
    }
