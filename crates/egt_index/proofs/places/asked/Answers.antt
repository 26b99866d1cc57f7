use Rattle.std.proofs.Common.{◌≡◌, ◌+◌, ◌*◌, ℕ, if◌then◌else◌, arith, ap, ◌∙◌, subst}
use Rattle.egt_index.specs.Prelude.{bit_at, code_of, TellsIndex}
use Rattle.egt_index.proofs.IndexTotal.{few}
use Rattle.egt_index.proofs.Numbered.{indexed_all, indexed_more, place_within}
use Rattle.egt_index.proofs.places.asked.Goals as goal

pub overflow_mul-first-2 : goal.overflow_mul-first-2
overflow_mul-first-2 c = grind (arith, few, c.number-number.ensures.below, c.number-number.ensures.value, c.requires, c.last_digits-digits.ensures.is)

-- the numbers of the digit are of the class
pub overflow_add-number : goal.overflow_add-number
overflow_add-number c = grind (arith, few, place_within, c.number-number.ensures.below, c.number-number.ensures.value, c.requires, c.last_digits-digits.ensures.is, c.loop-digit-test.true)

pub is_index-is_white-requires : goal.is_index-is_white-requires
is_index-is_white-requires c = let within = place_within c.args.class c.args.shelf c.last_digits-digits.result c.loop-digit.digit c.requires c.last_digits-digits.ensures.is c.loop-digit-test.true in omega arith

pub overflow_add-number-in-loop-digit : goal.overflow_add-number-in-loop-digit
overflow_add-number-in-loop-digit c = grind (arith, few, place_within, c.number-number.ensures.below, c.number-number.ensures.value, c.requires, c.last_digits-digits.ensures.is, c.loop-digit-test.true)

pub is_index-is_black-requires : goal.is_index-is_black-requires
is_index-is_black-requires c = place_within c.args.class c.args.shelf c.last_digits-digits.result c.loop-digit.digit c.requires c.last_digits-digits.ensures.is c.loop-digit-test.true

pub loop-digit-preserved : goal.loop-digit-preserved
loop-digit-preserved c =
    let before = c.loop-digit.invariant in
    let digit = c.loop-digit.digit in
    let first = c.args.shelf * (2 * c.last_digits-digits.result) in
    record {
      white = indexed_more c.args.class first digit _ _ c.is_index-is_white.result before.white
          (subst (λ s. bit_at c.set-white.result.bits s ≡ (if c.is_index-is_white.result then 1 else 0)) c.at-bit.ensures c.set-white.ensures.same)
          (λ t other. c.set-white.ensures.others t (λ e. other (e ∙ c.at-bit.ensures)))
          c.is_index-is_white.ensures;
      black = indexed_more c.args.class (first + 1) digit _ _ c.is_index-is_black.result before.black
          (subst (λ s. bit_at c.set-black.result.bits s ≡ (if c.is_index-is_black.result then 1 else 0)) c.at-bit.ensures c.set-black.ensures.same)
          (λ t other. c.set-black.ensures.others t (λ e. other (e ∙ c.at-bit.ensures)))
          (subst (λ n. TellsIndex c.is_index-is_black.result c.args.class (code_of c.args.class n)) (along first digit) c.is_index-is_black.ensures);
    }
  where
    along : (a k : ℕ) → a + 2 * k + 1 ≡ a + 1 + 2 * k
    along a k = omega arith

pub returns : goal.returns
returns c =
    let digits : c.loop-digit.digit ≡ c.last_digits-digits.result = (let most = c.loop-digit.auto.digit-end in omega (arith, c.loop-digit-test.false)) in
    indexed_all c.args.class c.args.shelf (c.args.shelf * (2 * c.last_digits-digits.result)) c.loop-digit.digit _ (ap (λ d. c.args.shelf * (2 * d)) c.last_digits-digits.ensures.is)
    (digits ∙ c.last_digits-digits.ensures.is) c.loop-digit.invariant.white c.loop-digit.invariant.black
