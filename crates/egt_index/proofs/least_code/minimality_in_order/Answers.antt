use Rattle.std.proofs.Common.{arith, inl, inr, sym, ◌∙◌}
use Rattle.egt_index.proofs.Beating.{index_kept, no_index, keeps_exchanged}
use Rattle.egt_index.proofs.least_code.minimality_in_order.Goals as goal

pub returns-then-has_equal_sides-clause-beaten : goal.returns-then-has_equal_sides-clause-beaten
returns-then-has_equal_sides-clause-beaten c = λ h stand prefix p side targeted code has s. no_index c.facts.ensures c.args.class code p has.admissible has.settled (elim (c.both.ensures.beaten h) [
  | inl straight ↦ c.minimality_straight-straight.ensures.beats straight stand prefix p side targeted code has s
  | inr exchanged ↦ c.minimality_exchanged.ensures.beats exchanged stand prefix.0 p side targeted code has s
])

pub returns-then-has_equal_sides-clause-least : goal.returns-then-has_equal_sides-clause-least
returns-then-has_equal_sides-clause-least c = λ h stand prefix in_order p side targeted code has s.
    let least = c.both.ensures.least h in
    index_kept c.facts.ensures c.args.class code p has.admissible has.settled s.spells (c.minimality_straight-straight.ensures.keeps least.0 stand prefix in_order p side targeted code has s)
    (c.minimality_exchanged.ensures.keeps least.1 stand prefix.0 p side targeted code has s)

pub returns-else-has_equal_sides-clause-beaten : goal.returns-else-has_equal_sides-clause-beaten
returns-else-has_equal_sides-clause-beaten c = λ h stand prefix p side targeted code has s.
    no_index c.facts.ensures c.args.class code p has.admissible has.settled (c.minimality_straight-straight.ensures.beats h stand prefix p side targeted code has s)

pub returns-else-has_equal_sides-clause-least : goal.returns-else-has_equal_sides-clause-least
returns-else-has_equal_sides-clause-least c = λ h stand prefix in_order p side targeted code has s.
    index_kept c.facts.ensures c.args.class code p has.admissible has.settled s.spells (c.minimality_straight-straight.ensures.keeps h stand prefix in_order p side targeted code has s)
    (keeps_exchanged c.facts.ensures c.args.class code p (omega (arith, c.number-number.ensures.below, c.number-number.ensures.value)) has.admissible has.is_of (sym c.has_equal_sides.ensures ∙ c.if-has_equal_sides.false))
