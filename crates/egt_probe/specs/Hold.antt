-- The move that holds a draw.
use Rattle.std.specs.Prelude.{Option, Some, None}
use Rattle.egt_moves.specs.Prelude.{Setup, Draw, HasValue, chess}
use Rattle.egt_moves.specs.Standing.{IsStalemate}
use Rattle.egt_moves.specs.declared.chess_move.Move.{Move}
use Rattle.egt_probe.specs.Line.{IsFirstTo}

-- of a drawn position the first move in the order of moves that leads to a drawn position, and none where it is stalemate
abbrev pub IsHold : Setup → Option Move → Type 0
IsHold p None = HasValue chess p Draw × IsStalemate p
IsHold p (Some m) = HasValue chess p Draw × ((q : Setup) × IsFirstTo Draw p m q)
