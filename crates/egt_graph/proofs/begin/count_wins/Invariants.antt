use Rattle.std.specs.Prelude.{◌≡◌, ◌≤◌, count_by, take}
use Rattle.egt_graph.specs.Prelude.{is_win_from}
use Rattle.egt_graph.proofs.begin.count_wins.Given as goal

abbrev pub invariant-loop-exit : goal.invariant-loop-exit
invariant-loop-exit l = (l.wins ≤ l.exit-index) × (l.wins ≡ count_by (is_win_from 0) (take l.exit-index l.exits))
