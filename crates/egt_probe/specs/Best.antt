-- The move that is best play.
use Rattle.std.specs.Prelude.{◌≡◌, zero, suc, ◌⊎◌, Option, Some, None}
use Rattle.egt_moves.specs.Prelude.{Setup, Value, Win, Loss, Draw, HasValue, chess, IsCheckmate}
use Rattle.egt_moves.specs.Standing.{IsStalemate}
use Rattle.egt_moves.specs.declared.chess_move.Move.{Move}
use Rattle.egt_probe.specs.Line.{IsFirstTo}

-- the value that a best move leads to: from a win in k plies a loss in k - 1, from a loss in k plies a win in k - 1, from a draw a draw
abbrev pub best_value : Value → Option Value
best_value (Win (suc n)) = Some (Loss n)
best_value (Loss (suc n)) = Some (Win n)
best_value Draw = Some Draw
best_value (Win zero) = None
best_value (Loss zero) = None

-- the first move in the order of moves that leads to such a position, and none at checkmate and at stalemate
abbrev pub IsBest : Setup → Option Move → Type 0
IsBest p None = IsCheckmate p ⊎ IsStalemate p
IsBest p (Some m) = (v : Value) × (w : Value) × (q : Setup) × HasValue chess p v × (best_value v ≡ Some w) × IsFirstTo w p m q
