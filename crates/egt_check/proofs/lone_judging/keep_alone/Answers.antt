use Rattle.std.proofs.Common.{◌≡◌, ◌∙◌, ◌+◌, ◌*◌, ℕ, arith, inl, inr, sym, subst}
use Rattle.egt_check.specs.Prelude.{cases_eq, kind_less, size_of, KeepsCode}
use Rattle.egt_check.proofs.lone_judging.keep_alone.Goals as goal

pub overflow_add-first : goal.overflow_add-first
overflow_add-first c = grind (arith, size_of, c.requires.codes, c.in-Some-digit_on.ensures.below, c.size-size.ensures, c.class.ensures.class)

pub loop-square-init : goal.loop-square-init
loop-square-init c = λ digit below has none. absurd (omega (arith, has, none))

pub loop-square-preserved : goal.loop-square-preserved
loop-square-preserved c = λ digit below has gone. elim (cases_eq (digit + kind_less c.args.three.now.men.last.kind) c.in-Some.square) [
  | inl same ↦
      let is = c.in-Some-digit_on.ensures.is in
      let digit_is : c.in-Some-digit_on.digit ≡ digit = omega (arith, same, is) in
      subst (λ (k : ℕ). KeepsCode c.args.three.now (c.args.first + 2 * k)) digit_is (c.keeps_alone.ensures c.if-not-keeps_alone.false)
  | inr other ↦ c.loop-square.invariant digit below has (sym (c.in-Some.ensures.others (digit + kind_less c.args.three.now.men.last.kind) other) ∙ gone)
]

pub returns : goal.returns
returns c = λ right digit below has. c.loop-square.invariant digit below has (c.in_default.ensures.empty (digit + kind_less c.args.three.now.men.last.kind))
