-- Moves turned by a symmetry of the board, with colours exchanged or not.
use Rattle.std.specs.Prelude.{ℕ, Bool}
use Rattle.egt_board.specs.Turned.{turned_square}
use Rattle.egt_moves.specs.declared.chess_move.Move.{Move}

-- between the squares to which the turn takes its squares
abbrev pub turned_move : ℕ → Bool → Move → Move
turned_move n flipped m = record { from = turned_square n flipped m.from; to = turned_square n flipped m.to; promo = m.promo }
