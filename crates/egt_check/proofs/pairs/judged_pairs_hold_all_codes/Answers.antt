use Rattle.std.proofs.Common.{◌≡◌, ◌<◌, ◌≤◌, ◌+◌, ◌*◌, ◌/◌, ℕ, cond, arith, ap, ◌∙◌, true, inl, inr}
use Rattle.egt_check.specs.Prelude.{div-add-mod', div_below, mod_below, cases_lt, Side, ShelfMen, ends_of, half_of}
use Rattle.egt_check.specs.Prelude.{half_twice, has_target, kind_digits, material_of, places, size_of, TableValue, Tables}
use Rattle.egt_check.specs.Prelude.{ArePairs, IsJudgedPair, KeepsPart, Pairs, Part}
use Rattle.egt_check.proofs.PairsJudged.{pair_keeps}
use Rattle.egt_check.proofs.pairs.judged_pairs_hold_all_codes.Goals as goal

module _ (part : Part) (tables : Tables) (t : TableValue) (men : ShelfMen) (pairs : Pairs) (are : ArePairs t.class men pairs) where
  halves : has_target (material_of t.class) ≡ true → pairs.half * (2 * kind_digits men.last.kind) ≡ half_of t.class
  halves has =
      let four : pairs.codes ≡ 4 * kind_digits men.last.kind * pairs.step = are.codes ∙ ap (λ b. cond b 4 2 * places t.class * pairs.step) has ∙ ap (λ w. 4 * w * pairs.step) are.wide in
      let all = ap (λ n. pairs.kings * n) four in
      let half = ap (λ n. n * (2 * kind_digits men.last.kind)) (are.half has) in
      let twice = half_twice t.class has in
      let size = are.all in omega (arith, all, half, twice, size)

  of_pair : (pair i : ℕ) → ((side : Side) → IsJudgedPair part tables t men pairs side pair) → i < size_of t.class → pair * pairs.codes ≤ i → i < (pair + 1) * pairs.codes → KeepsPart part tables t i
  of_pair pair i judged = pair_keeps (KeepsPart part tables t) t.class men.last.kind pairs.step pair pairs.half pairs.codes i are.wide
      (are.codes ∙ ap (λ w. ends_of (material_of t.class) * w * pairs.step) are.wide) halves
      (λ x y side x_in y_in. let same = are.step in let x_few : x < kind_digits men.first.kind = omega (arith, same, x_in) in let both = judged side in (both.0 x y x_few y_in, both.1 x y x_few y_in))

-- each code of all pairs is one of a pair's
pair_of : (codes pairs n i : ℕ) → pairs * codes ≡ n → i < n → (pair : ℕ) × (pair < pairs) × (pair * codes ≤ i) × (i < (pair + 1) * codes)
pair_of codes pairs n i all below = elim (cases_lt 0 codes) [
  | inl some ↦
      let is = div-add-mod' i codes in
      let rest = mod_below i codes some in
      (i / codes, div_below i codes pairs some (omega (arith, all, below)), omega (arith, is), omega (arith, is, rest))
  | inr none ↦ let none = ap (λ k. pairs * k) (let e : codes ≡ 0 = omega (arith, none) in e) in absurd (omega (arith, none, all, below))
]

pub returns : goal.returns
returns c = record {
  pair = λ part tables t men pairs pair i are. of_pair part tables t men pairs are pair i;
  all = λ part tables t men pairs are judged i below.
      let of = pair_of pairs.codes (64 * pairs.kings) (size_of t.class) i are.all below in
      of_pair part tables t men pairs are of.0 i (λ side. judged side of.0 of.1) below of.2 of.3;
}
