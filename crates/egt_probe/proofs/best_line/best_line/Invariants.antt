use Rattle.std.specs.Prelude.{◌≤◌, List, ◌++◌}
use Rattle.egt_probe.specs.Prelude.{HasValue, chess, mate_by, Move, IsLine, IsLoaded, loaded_in}
use Rattle.egt_probe.proofs.best_line.best_line.Given as goal

-- whatever is the line from here, it is the rest of the line from the position
abbrev pub invariant-loop-left : goal.invariant-loop-left
invariant-loop-left l = record {
  few : l.left ≤ 32000;
  loaded : IsLoaded (loaded_in l.library) l.here;
  value : HasValue chess l.here (mate_by l.here.side l.winner l.left);
  line : (rest : List Move) → IsLine l.here (mate_by l.here.side l.winner l.left) rest → IsLine l.position (mate_by l.position.side l.winner l.plies) (l.moves.items ++ rest);
}

abbrev pub decreases-loop-left : goal.decreases-loop-left
decreases-loop-left l = l.left
