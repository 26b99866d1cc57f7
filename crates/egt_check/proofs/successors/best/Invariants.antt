use Rattle.std.specs.Prelude.{None}
use Rattle.egt_check.specs.Prelude.{AreRaised, shown_by, Tried}
use Rattle.egt_check.proofs.successors.best.Given as goal

-- the best of the moves so far
abbrev pub invariant-loop-chess_move : goal.invariant-loop-chess_move
invariant-loop-chess_move l = AreRaised (shown_by l.library l.table) l.position (Tried l.chess_move-items l.chess_move-index) None l.best
