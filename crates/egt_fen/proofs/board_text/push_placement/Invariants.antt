use Rattle.std.specs.Prelude.{◌≡◌, ◌<◌, ◌++◌}
use Rattle.egt_fen.specs.Prelude.{placement_text}
use Rattle.egt_fen.proofs.Written.{below}
use Rattle.egt_fen.proofs.board_text.push_placement.Given as goal

abbrev pub invariant-loop-rank : goal.invariant-loop-rank
invariant-loop-rank l = record {
  on_board : l.rank < 8;
  written : l.text.items ++ below l.board l.rank ≡ l.fn.text.items ++ placement_text l.board;
}

abbrev pub decreases-loop-rank : goal.decreases-loop-rank
decreases-loop-rank l = l.rank
