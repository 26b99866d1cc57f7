use Rattle.std.specs.Prelude.{take}
use Rattle.egt_graph.specs.Prelude.{Adds, is_win_of, is_loss_of}
use Rattle.egt_graph.proofs.begin.schedule_exits.Given as goal

abbrev pub invariant-loop-exit : goal.invariant-loop-exit
invariant-loop-exit l = record {
  losses : Adds is_loss_of l.initial.lost_due l.lost_due l.node (take l.exit-index l.exits);
  wins : Adds is_win_of l.initial.won_due l.won_due l.node (take l.exit-index l.exits);
}
