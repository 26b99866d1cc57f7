use Rattle.std.proofs.Common.{◌≡◌, ◌*◌, ◌/◌, ◌%◌, ◌∙◌, ℕ, arith, sym, subst}
use Rattle.egt_index.specs.Prelude.{div-le_self, half_of, places, size_of}
use Rattle.egt_index.proofs.NumbersOfCodes.{half_whole, half_within}
use Rattle.egt_index.proofs.IndexTotal.{few}
use Rattle.egt_index.proofs.numbers.prefixes.Goals as goal

-- the half in shelves of so many digits
whole : (c digits half : ℕ) → digits ≡ places c → size_of c % (2 * places c) ≡ 0 → half ≡ half_of c → half / (2 * digits) * (2 * places c) ≡ half_of c
whole c digits half is rest half_is = subst (λ h. h / (2 * digits) * (2 * places c) ≡ half_of c) (sym half_is) (half_whole c digits is rest)

pub returns-in-64-clause-whole : goal.returns-in-64-clause-whole
returns-in-64-clause-whole c = whole c.args.class 64 c.half.result (sym c.in-64.is ∙ c.last_digits.ensures.is) c.last_digits.ensures.whole c.half.ensures

pub returns-in-48-clause-whole : goal.returns-in-48-clause-whole
returns-in-48-clause-whole c = whole c.args.class 48 c.half-in-48.result (sym c.in-48.is ∙ c.last_digits.ensures.is) c.last_digits.ensures.whole c.half-in-48.ensures

pub returns-in_default-clause-whole : goal.returns-in_default-clause-whole
returns-in_default-clause-whole c = whole c.args.class c.last_digits.result c.half-in_default.result c.last_digits.ensures.is c.last_digits.ensures.whole c.half-in_default.ensures

pub returns-in_default-clause-few : goal.returns-in_default-clause-few
returns-in_default-clause-few c =
    let size = few c.args.class (omega (arith, c.number-number.ensures.below, c.number-number.ensures.value)) in
    let half = half_within c.args.class in
    let le = div-le_self c.half-in_default.result (2 * c.last_digits.result) in
    omega arith
