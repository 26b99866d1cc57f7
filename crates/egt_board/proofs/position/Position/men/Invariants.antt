use Rattle.egt_board.proofs.Gather.{Gathered}
use Rattle.egt_board.proofs.position.Position.men.Given as goal

abbrev pub invariant-loop-square : goal.invariant-loop-square
invariant-loop-square l = Gathered l.self-inside.board l.men.items l.rest.bits

abbrev pub decreases-loop-square : goal.decreases-loop-square
decreases-loop-square l = l.rest.bits
