use Rattle.egt_moves.proofs.Sticking.{LeavesSet}
use Rattle.egt_moves.proofs.standings.can_move.Given as goal

abbrev pub invariant-loop-from : goal.invariant-loop-from
invariant-loop-from l = LeavesSet l.position l.rest.bits

abbrev pub decreases-loop-from : goal.decreases-loop-from
decreases-loop-from l = l.rest.bits
