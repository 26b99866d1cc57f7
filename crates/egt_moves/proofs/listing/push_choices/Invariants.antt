use Rattle.egt_moves.proofs.Choosing.{Chosen}
use Rattle.egt_moves.proofs.listing.push_choices.Given as goal

abbrev pub invariant-loop-kind : goal.invariant-loop-kind
invariant-loop-kind l = Chosen l.from l.to l.fn.moves.items l.moves.items l.kind-index
