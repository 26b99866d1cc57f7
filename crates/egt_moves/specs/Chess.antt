-- Chess as an arena of play: from position to position by legal moves, until checkmate.
use Rattle.std.specs.Prelude.{◌≡◌, ℕ, ◌⊎◌}
use Rattle.egt_board.specs.Prelude.{other_side, Placement, Stands, IsOccupiedBy, Setup}
use Rattle.egt_board.specs.declared.man.Kind.TheVariants.{P}
use Rattle.egt_board.specs.declared.man.Man.{Man}
use Rattle.egt_moves.specs.declared.chess_move.Move.{Move}
use Rattle.egt_moves.specs.WinLossDraw.{Arena}
use Rattle.egt_moves.specs.Legal.{Leads}
use Rattle.egt_moves.specs.Standing.{IsCheckmate}

-- a pawn stands on the square
pub record IsPawnOn (men : Placement) (s : ℕ) : Type 0 where
  pub man : Man
  pub stands : Stands men s man
  pub pawn : man.kind ≡ P

-- the move captures or is a pawn's (FIDE Laws of Chess 2023, article 9.3: a move after which the count of moves
-- begins anew)
abbrev pub Zeroes : Setup → Move → Type 0
Zeroes p m = IsOccupiedBy p.men m.to (other_side p.side) ⊎ IsPawnOn p.men m.from

-- legal moves (FIDE Laws of Chess 2023, article 3) and checkmate (article 5.1.1)
abbrev pub chess : Arena Setup
chess = record {
  Move = λ p q. (m : Move) × Leads p m q;
  Zeroes = λ p q step. Zeroes p step.0;
  Checkmate = IsCheckmate;
}
