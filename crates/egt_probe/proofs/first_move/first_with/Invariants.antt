use Rattle.egt_probe.proofs.Ordered.{MissesBelow}
use Rattle.egt_probe.proofs.first_move.first_with.Given as goal

-- none of the moves so far leads to the entry
abbrev pub invariant-loop-chess_move : goal.invariant-loop-chess_move
invariant-loop-chess_move l = MissesBelow l.position l.entry l.chess_move-items l.chess_move-index
