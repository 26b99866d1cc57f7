use Rattle.std.proofs.Common.{arith, sym, subst, ◌<◌, ◌∙◌}
use Rattle.egt_index.specs.Prelude.{ltb-true}
use Rattle.egt_index.proofs.VoidByKings.{void_across, void_near, void_within}
use Rattle.egt_index.proofs.void_by_kings.is_void_after.Goals as goal

pub returns-then-are_near-clause-void : goal.returns-then-are_near-clause-void
returns-then-are_near-clause-void c = λ _.
    void_near c.facts.ensures c.args.class c.args.white c.args.black c.args.turn (omega (arith, c.number-number.ensures.below, c.number-number.ensures.value)) (c.are_near.ensures.0 c.if-are_near.true)

pub returns-then-home_kings-own-clause-void : goal.returns-then-home_kings-own-clause-void
returns-then-home_kings-own-clause-void c = λ _.
    void_within c.facts.ensures c.args.class c.args.white c.args.black c.args.turn c.home_kings.result (omega (arith, c.number-number.ensures.below, c.number-number.ensures.value)) c.home_kings.ensures
    (subst (λ own. c.home_kings.result < own) c.kings_after-own.ensures c.if-home_kings-own.true)

pub returns-then-has_equal_sides-clause-void : goal.returns-then-has_equal_sides-clause-void
returns-then-has_equal_sides-clause-void c = λ lesser.
    void_across c.facts.ensures c.args.class c.args.white c.args.black c.args.turn c.home_kings-then-has_equal_sides.result (omega (arith, c.number-number.ensures.below, c.number-number.ensures.value))
    (sym c.has_equal_sides.ensures ∙ c.if-has_equal_sides.true) c.home_kings-then-has_equal_sides.ensures
    (subst (λ own. c.home_kings-then-has_equal_sides.result < own) c.kings_after-own.ensures (ltb-true _ _ lesser))
