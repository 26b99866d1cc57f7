use Rattle.std.proofs.Common.{◌≡◌, ◌+◌, ◌*◌, ◌/◌, ◌≤◌, ◌∙◌, ap, arith, subst}
use Rattle.egt_blocks.specs.Prelude.{mul-le-mul_right, div-add-mod', kind_less, IsShelfOf, size_of, ShelfMen, men_on}
use Rattle.egt_blocks.proofs.ShelfRuns.{shelf_up}
use Rattle.egt_blocks.proofs.blocks.shelves_of.Goals as goal

pub returns-clause-shelves : goal.returns-clause-shelves
returns-clause-shelves c = λ d d_in.
    let men = c.args.men.now in
    let class = c.args.class in
    let first = c.in_ok-first.first in
    let on : c.at-on.result ≡ kind_less men.first.kind = c.at-on.ensures ∙ c.first_square.ensures in
    let is : IsShelfOf c.args.targeted class first (men_on men (kind_less men.first.kind)) = subst (λ (m : ShelfMen). IsShelfOf c.args.targeted class first m) (c.men_on.ensures ∙ ap (men_on men) on) c.in_ok-first.ensures.shelf in
    let digits = c.from.ensures ∙ c.digits_of.ensures in
    let past = c.if-last-first.false in
    let last = c.in_ok-last.ensures in
    let shelves = c.size.result / (2 * c.last_digits.result) in
    let most : first + d + 1 ≤ shelves = omega (arith, digits, past, last, d_in) in
    let more = mul-le-mul_right (2 * c.last_digits.result) most in
    let whole = div-add-mod' c.size.result (2 * c.last_digits.result) in
    let within : (first + d + 1) * (2 * c.last_digits.result) ≤ c.size.result = omega (arith, more, whole) in
    (shelf_up c.args.targeted class first men is d d_in, subst (λ p. (first + d + 1) * (2 * p) ≤ size_of class) c.last_digits.ensures.is (subst (λ n. (first + d + 1) * (2 * c.last_digits.result) ≤ n) c.size.ensures within))
