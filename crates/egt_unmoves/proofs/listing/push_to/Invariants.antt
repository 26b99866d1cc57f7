use Rattle.egt_unmoves.proofs.Pushing.{ListsTo}
use Rattle.egt_unmoves.proofs.listing.push_to.Given as goal

abbrev pub invariant-loop-from : goal.invariant-loop-from
invariant-loop-from l = ListsTo l.position l.man l.to l.initial.rest l.fn.list.items l.list.items l.rest

abbrev pub decreases-loop-from : goal.decreases-loop-from
decreases-loop-from l = l.rest.bits
