use Rattle.egt_moves.proofs.Walking.{Walks}
use Rattle.egt_moves.proofs.listing.legal_moves.Given as goal

abbrev pub invariant-loop-from : goal.invariant-loop-from
invariant-loop-from l = Walks l.position l.moves.items l.rest

abbrev pub decreases-loop-from : goal.decreases-loop-from
decreases-loop-from l = l.rest.bits
