-- All men of a position, and where they stand after a move.
use Rattle.std.specs.Prelude.{◌≡◌, ℕ, ◌==◌, if◌then◌else◌, Option, Some, None}
use Rattle.egt_board.specs.declared.man.Man.{Man}
use Rattle.egt_board.specs.AllMen.{HasAllMen}
use Rattle.egt_board.specs.Setup.{Setup}
use Rattle.egt_moves.specs.declared.chess_move.Move.{Move}
use Rattle.egt_moves.specs.declared.men_after.Men.{Men}
use Rattle.egt_moves.specs.Promotion.{arriving}

-- these are all men of the position, and its side to move
pub record AreMenOf (p : Setup) (m : Men) : Type 0 where
  pub men : HasAllMen p.men m.white m.black m.first m.other
  pub side : p.side ≡ m.side

-- who stood on the square left is on the square arrived at, and whoever stood there is gone
abbrev pub entry_after : Option (Man × ℕ) → Move → Option (Man × ℕ)
entry_after None m = None
entry_after (Some e) m = if e.1 == m.from then Some (arriving e.0 m.promo, m.to) else (if e.1 == m.to then None else Some e)

-- a king is on the square arrived at where he left the other
abbrev pub square_after : ℕ → Move → ℕ
square_after s m = if s == m.from then m.to else s
