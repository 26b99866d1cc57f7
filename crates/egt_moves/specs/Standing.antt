-- Checkmate and stalemate: FIDE Laws of Chess 2023, articles 5.1.1 and 5.2.1.
use Rattle.egt_board.specs.Prelude.{IsInCheck, Setup}
use Rattle.egt_moves.specs.declared.chess_move.Move.{Move}
use Rattle.egt_moves.specs.declared.outcome.Standing.{Standing}
use Rattle.egt_moves.specs.declared.outcome.Standing.TheVariants.{Checkmate, Stalemate, HasMove}
use Rattle.egt_moves.specs.Legal.{IsLegal}

-- the side to move has no legal move
abbrev pub IsStuck : Setup → Type 0
IsStuck p = (m : Move) → ¬ IsLegal p m

-- no legal move, and the king is in check
pub record IsCheckmate (p : Setup) : Type 0 where
  pub stuck : IsStuck p
  pub check : IsInCheck p.men p.side

-- no legal move, and the king is not in check
pub record IsStalemate (p : Setup) : Type 0 where
  pub stuck : IsStuck p
  pub quiet : ¬ IsInCheck p.men p.side

-- some move is legal
pub record CanMove (p : Setup) : Type 0 where
  pub move : Move
  pub legal : IsLegal p move

-- how the side to move stands
abbrev pub StandsAs : Setup → Standing → Type 0
StandsAs p Checkmate = IsCheckmate p
StandsAs p Stalemate = IsStalemate p
StandsAs p HasMove = CanMove p
