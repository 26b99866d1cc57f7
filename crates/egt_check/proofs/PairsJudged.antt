-- The codes of a pair of kings' squares are those of its shelves' numbers.
use Rattle.std.proofs.Common.{◌≡◌, ℕ, ◌+◌, ◌*◌, ◌/◌, ◌%◌, ◌<◌, ◌≤◌, ◌∙◌, cond, arith, ap, true, inl, inr}
use Rattle.egt_check.specs.Prelude.{cases_lt, code_high, code_low, code_plain, half_twice, of_targets, Kind, Side}
use Rattle.egt_check.specs.Prelude.{code_of, ends_of, half_of, has_target, kind_digits, material_of, number_in, places}
use Rattle.egt_check.specs.Prelude.{size_of}
use Rattle.egt_check.proofs.TablePairs.{shelves_keep}

-- what holds at the codes of a pair's shelves, and at those of as many `half` further on, holds at all codes of the pair
pub pair_keeps : (Right : ℕ → Type 0) (c : ℕ) (kind : Kind) (many pair half codes i : ℕ) → places c ≡ kind_digits kind → codes ≡ ends_of (material_of c) * kind_digits kind * many
    → (has_target (material_of c) ≡ true → half * (2 * kind_digits kind) ≡ half_of c)
    → ((x y : ℕ) (side : Side) → x < many → y < kind_digits kind → Right (code_of c (number_in c (pair * many + x) side y)) × Right (code_of c (number_in c (pair * many + half + x) side y)))
    → i < size_of c → pair * codes ≤ i → i < (pair + 1) * codes → Right i
pair_keeps Right c kind many pair half codes i wide many_codes halves judged below from under = of_targets c
    (λ none.
    let two : codes ≡ 2 * kind_digits kind * many = many_codes ∙ ap (λ b. cond b 4 2 * kind_digits kind * many) none in
    let all = ap (λ n. pair * n) two in
    shelves_keep Right c kind (pair * many) many i i wide (λ x y side x_in y_in. (judged x y side x_in y_in).0) (omega (arith, all, from)) (omega (arith, all, two, under)) (code_plain c i none))
    (λ has.
    let four : codes ≡ 4 * kind_digits kind * many = many_codes ∙ ap (λ b. cond b 4 2 * kind_digits kind * many) has in
    let all = ap (λ n. pair * n) four in
    let twice = half_twice c has in
    let met = halves has in
    elim (cases_lt (i % 2) 1) [
      | inl even ↦
          let is = code_low c (i / 2) has (omega (arith, twice, below)) in
          shelves_keep Right c kind (pair * many) many (i / 2) i wide (λ x y side x_in y_in. (judged x y side x_in y_in).0) (omega (arith, all, from)) (omega (arith, all, four, under)) (omega (arith, is, even))
      | inr odd ↦
          let is = code_high c (i / 2 + half_of c) has (omega arith) in
          shelves_keep Right c kind (pair * many + half) many (i / 2 + half_of c) i wide (λ x y side x_in y_in. (judged x y side x_in y_in).1)
          (omega (arith, all, met, from)) (omega (arith, all, four, met, under)) (omega (arith, is, odd))
    ])
