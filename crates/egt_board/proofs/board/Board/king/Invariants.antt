use Rattle.egt_board.proofs.Kings.{Seeks}
use Rattle.egt_board.proofs.board.Board.king.Given as goal

abbrev pub invariant-loop-square : goal.invariant-loop-square
invariant-loop-square l = Seeks l.self l.fn.side l.found l.rest.bits

abbrev pub decreases-loop-square : goal.decreases-loop-square
decreases-loop-square l = l.rest.bits
