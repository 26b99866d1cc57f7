use Rattle.egt_board.proofs.Pawns.{FitSoFar}
use Rattle.egt_board.proofs.board.Board.pawns_fit.Given as goal

abbrev pub invariant-loop-square : goal.invariant-loop-square
invariant-loop-square l = FitSoFar l.self l.rest.bits

abbrev pub decreases-loop-square : goal.decreases-loop-square
decreases-loop-square l = l.rest.bits
