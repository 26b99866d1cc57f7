use Rattle.std.proofs.Common.{sym, subst, arith}
use Rattle.egt_index.specs.Prelude.{Best}
use Rattle.egt_index.proofs.Beating.{has_exchanged}
use Rattle.egt_index.proofs.LeastTurn.{best_of_colours}
use Rattle.egt_index.proofs.indexing.least_of_both.Goals as goal

pub returns : goal.returns
returns c = λ p has.
    let seen = has_exchanged c.facts.ensures c.args.class c.args.flipped c.args.stand.now c.exchanged-others.result c.args.side c.args.targeted p (omega (arith, c.number-number.ensures.below, c.number-number.ensures.value)) c.requires
    c.exchanged-others.ensures.white c.exchanged-others.ensures.black c.exchanged-others.ensures.first c.exchanged-others.ensures.last has in
    subst (Best c.args.class p 16) (sym c.lesser.ensures)
    (best_of_colours c.args.class p c.args.flipped c.least_with-own.result c.least_with-other.result (c.least_with-own.ensures p has) (c.least_with-other.ensures p seen))
