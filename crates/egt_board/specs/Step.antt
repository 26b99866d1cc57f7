use Rattle.std.specs.Prelude.{ℕ, ◌*◌, ◌<◌}
use Rattle.egt_board.specs.declared.step.Step.{Step}
use Rattle.egt_board.specs.Coordinate.{Further}
use Rattle.egt_board.specs.Square.{file_of, rank_of}

-- t is n of these steps away from s, on the board
pub record Away (d : Step) (n : ℕ) (s t : ℕ) : Type 0 where
  pub on_board : t < 64
  pub across : Further d.files (n * d.wide) (file_of s) (file_of t)
  pub along : Further d.ranks (n * d.high) (rank_of s) (rank_of t)
