use Rattle.std.proofs.Common.{◌≡◌, ◌<◌, ◌*◌, ◌+◌, ◌-◌, true, arith, sym, ◌∙◌, subst}
use Rattle.egt_index.specs.Prelude.{material_of, code_of, has_target, size_of}
use Rattle.egt_index.proofs.NumbersOfCodes.{code_below, code_high, code_low, code_plain}
use Rattle.egt_index.proofs.IndexTotal.{few}
use Rattle.egt_index.proofs.numbers.code_of.Goals.{After-half-half, Else-number-half, Then-number-half}
use Rattle.egt_index.proofs.numbers.code_of.Goals as goal

small : (c : After-half-half) → size_of c.args.class < 268435456
small c = few c.args.class (omega (arith, c.number-number.ensures.below, c.number-number.ensures.value))

has : (c : After-half-half) → has_target (material_of c.args.class) ≡ true
has c = sym c.has_target.ensures ∙ c.if-not-has_target.false

low : (c : Then-number-half) → code_of c.args.class c.args.number ≡ 2 * c.args.number
low c = code_low c.args.class c.args.number (has c.before) (subst (λ h. c.args.number < h) c.half-half.ensures c.if-number-half.true)

high : (c : Else-number-half) → code_of c.args.class c.args.number ≡ 2 * (c.args.number - c.half-half.result) + 1
high c = grind (arith, code_high, has)

pub returns-then-not-has_target-clause-is : goal.returns-then-not-has_target-clause-is
returns-then-not-has_target-clause-is c = sym (code_plain c.args.class c.args.number (sym c.has_target.ensures ∙ c.if-not-has_target.true))

pub overflow_mul-result : goal.overflow_mul-result
overflow_mul-result c = let size = small c.before in omega (arith, c.requires)

pub overflow_mul-result-else-number-half : goal.overflow_mul-result-else-number-half
overflow_mul-result-else-number-half c = let size = small c.before in omega (arith, c.requires)

pub overflow_add-result : goal.overflow_add-result
overflow_add-result c = let size = small c.before in omega (arith, c.requires)

pub returns-then-number-half-clause-is : goal.returns-then-number-half-clause-is
returns-then-number-half-clause-is c = sym (low c)

pub returns-then-number-half-clause-within : goal.returns-then-number-half-clause-within
returns-then-number-half-clause-within c = subst (λ n. n < size_of c.args.class) (low c) (code_below c.args.class c.args.number c.requires)

pub returns-else-number-half-clause-is : goal.returns-else-number-half-clause-is
returns-else-number-half-clause-is c = sym (high c)

pub returns-else-number-half-clause-within : goal.returns-else-number-half-clause-within
returns-else-number-half-clause-within c = subst (λ n. n < size_of c.args.class) (high c) (code_below c.args.class c.args.number c.requires)
