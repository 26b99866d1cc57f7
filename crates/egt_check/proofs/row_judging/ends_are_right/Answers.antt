use Rattle.std.proofs.Common.{◌≡◌, ◌∙◌, ◌+◌, ◌*◌, arith, ap, inl, inr, sym, subst}
use Rattle.egt_check.specs.Prelude.{cases_eq, code_of, kind_less, size_of, IsRightEndOf}
use Rattle.egt_check.proofs.row_judging.ends_are_right.Goals as goal

pub overflow_add-first : goal.overflow_add-first
overflow_add-first c = grind (arith, size_of, c.requires.codes, c.in-Some-digit_on.ensures.below, c.size-size.ensures, c.class-class.ensures.class)

pub loop-square-init : goal.loop-square-init
loop-square-init c = λ digit below has none. absurd (omega (arith, has, none))

pub loop-square-preserved : goal.loop-square-preserved
loop-square-preserved c = λ digit below has gone. elim (cases_eq (digit + kind_less c.args.man.kind) c.in-Some.square) [
  | inl same ↦
      let is = c.in-Some-digit_on.ensures.is in
      let digit_is : c.in-Some-digit_on.digit ≡ digit = omega (arith, same, is) in
      let code_is = c.code_of.ensures.is ∙ ap (λ k. code_of k (c.args.first + 2 * c.in-Some-digit_on.digit)) c.class-class.ensures.class ∙ ap (λ k. code_of c.args.table.now.class (c.args.first + 2 * k)) digit_is in
      subst (λ k. IsRightEndOf c.args.part c.args.table.now k) code_is (c.end_is_right.ensures c.if-not-end_is_right.false)
  | inr other ↦ c.loop-square.invariant digit below has (sym (c.in-Some.ensures.others (digit + kind_less c.args.man.kind) other) ∙ gone)
]

pub returns : goal.returns
returns c = λ right digit below has. c.loop-square.invariant digit below has (c.in_default.ensures.empty (digit + kind_less c.args.man.kind))
