use Rattle.egt_board.proofs.Hiding.{Sees}
use Rattle.egt_board.proofs.attack_lines.seen.Given as goal

abbrev pub invariant-loop-blocker : goal.invariant-loop-blocker
invariant-loop-blocker l = Sees l.from l.fn.squares.bits l.fn.occupied.bits l.left.bits l.blockers.bits

abbrev pub decreases-loop-blocker : goal.decreases-loop-blocker
decreases-loop-blocker l = l.blockers.bits
