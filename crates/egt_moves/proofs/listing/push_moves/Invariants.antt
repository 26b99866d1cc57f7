use Rattle.egt_moves.proofs.ListGrows.{Lists}
use Rattle.egt_moves.proofs.listing.push_moves.Given as goal

abbrev pub invariant-loop-to : goal.invariant-loop-to
invariant-loop-to l = Lists l.position l.man l.from l.fn.moves.items l.moves.items l.left

abbrev pub decreases-loop-to : goal.decreases-loop-to
decreases-loop-to l = l.left.bits
