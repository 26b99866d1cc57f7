use Rattle.std.proofs.Common.{None, sym, ◌∙◌, arith}
use Rattle.egt_index.proofs.LeastTurn.{best_of_colours, none_exchanged}
use Rattle.egt_index.proofs.indexing.least_arranged.Goals as goal

pub returns-else-has_equal_sides : goal.returns-else-has_equal_sides
returns-else-has_equal_sides c = λ p has.
    let k = c.args.class in
    let flipped = c.args.men.now.flipped in
    best_of_colours k p flipped c.least_with.result None (c.least_with.ensures p has)
    (none_exchanged c.facts.ensures k flipped p (omega (arith, c.number-number.ensures.below, c.number-number.ensures.value)) has.admissible has.is_of (sym c.has_equal_sides.ensures ∙ c.if-has_equal_sides.false))
