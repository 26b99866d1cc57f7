use Rattle.egt_unmoves.proofs.Men.{ListsMen}
use Rattle.egt_unmoves.proofs.listing.unmoves.Given as goal

abbrev pub invariant-loop-to : goal.invariant-loop-to
invariant-loop-to l = ListsMen l.position l.list.items l.rest

abbrev pub decreases-loop-to : goal.decreases-loop-to
decreases-loop-to l = l.rest.bits
