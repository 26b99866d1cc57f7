use Rattle.std.proofs.Common.{◌≡◌, ◌∙◌, ◌*◌, ◌/◌, ℕ, arith, ap, subst}
use Rattle.egt_check.specs.Prelude.{kind_digits, IsJudgedRow, div-add-mod'}
use Rattle.egt_check.proofs.lone_runs.right_run.Goals as goal

pub returns-then-lone_row_is_right-clause-right : goal.returns-then-lone_row_is_right-clause-right
returns-then-lone_row_is_right-clause-right c =
    let three = c.args.three.now in
    let man = three.men.last in
    let first = c.in_ok-first.first in
    let len = 2 * c.from-len.result in
    let digits : c.from-len.result ≡ kind_digits man.kind = c.from-len.ensures ∙ c.digits_of.ensures in
    let whole = c.if-first-len-eq0.true in
    let split = div-add-mod' first len in
    let is : first ≡ first / len * (2 * kind_digits man.kind) = (let wide = ap (λ n. first / len * (2 * n)) digits in omega (arith, split, whole, wide)) in
    subst (λ (n : ℕ). IsJudgedRow three n c.args.side) is (c.lone_row_is_right.ensures c.if-lone_row_is_right.true)
