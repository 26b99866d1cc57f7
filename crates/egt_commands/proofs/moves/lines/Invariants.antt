use Rattle.std.specs.Prelude.{◌≡◌, take}
use Rattle.egt_commands.specs.Prelude.{lines_of}
use Rattle.egt_commands.proofs.moves.lines.Given as goal

abbrev pub invariant-loop-chess_move : goal.invariant-loop-chess_move
invariant-loop-chess_move l = l.text.items ≡ lines_of (take l.chess_move-index l.moves)
