use Rattle.std.specs.Prelude.{◌≡◌, ◌≤◌, ◌++◌, drop}
use Rattle.egt_fen.specs.Prelude.{squares_text, squares_of, rank_text}
use Rattle.egt_fen.proofs.board_text.push_rank.Given as goal

abbrev pub invariant-loop-file : goal.invariant-loop-file
invariant-loop-file l = record {
  few : l.gap ≤ l.file;
  written : l.text.items ++ squares_text l.gap (drop l.file (squares_of l.board l.rank)) ≡ l.fn.text.items ++ rank_text l.board l.rank;
}
