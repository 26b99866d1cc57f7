-- Checkmate ends the game.
use Rattle.egt_moves.specs.Prelude.{Ends, chess}

pub chess_ends : Ends chess
chess_ends p c q m = c.stuck m.0 (q, m.1)
