use Rattle.egt_board.proofs.MirroredPosition.{Turns}
use Rattle.egt_board.proofs.position.Position.mirrored_board.Given as goal

abbrev pub invariant-loop-square : goal.invariant-loop-square
invariant-loop-square l = Turns l.fn.mirror l.self.men l.board l.rest

abbrev pub decreases-loop-square : goal.decreases-loop-square
decreases-loop-square l = l.rest.bits
