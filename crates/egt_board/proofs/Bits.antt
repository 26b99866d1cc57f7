-- One bit of a set of squares.
use Rattle.std.proofs.Common.{◌≡◌, ◌≢◌, ◌↔◌, ℕ, zero, Bool, true, false, inl, inr, suc, ◌<◌, ◌^◌, ◌*◌, ◌%◌, ◌-◌, ◌≤◌}
use Rattle.std.proofs.Common.{min, w64, arith, ap, sym, ◌∙◌, subst}
use Rattle.egt_board.specs.Prelude.{bit_and, bit_at, trailing_zeros, bit_not, and_le_l, bit_at-trailing_zeros}
use Rattle.egt_board.specs.Prelude.{bit_at_clear_same, bit_at-lt, bit_at_above, bit_at_clear_other, bit_at_and}
use Rattle.egt_board.specs.Prelude.{bit_at_not, cases_eq, cases_lt}

pub not_both : {A : Type 0} (n : ℕ) → n ≡ 0 → n ≡ 1 → A
not_both n none one = absurd (omega arith)

-- the lowest 1 of a number of 64 bits that has one
pub bit_at_first : (n k : ℕ) → n < 2 ^ 64 → k < 64 → k ≡ trailing_zeros w64 n → (bit_at n k ≡ 1) × ((t : ℕ) → t < k → bit_at n t ≡ 0)
unfolding lib.Count.count_trailing_zeros
bit_at_first zero k small below e = let bad : k ≡ 64 = e in absurd (omega arith)
bit_at_first (suc n) k small below e =
    let h = bit_at-trailing_zeros w64 (suc n) (omega arith) small in
    (ap (bit_at (suc n)) e ∙ h.1, λ t lt. h.2 t (subst (λ j. t < j) e lt))

less : (m n : ℕ) → m ≤ n → m ≢ n → m < n
less m n le other = omega arith

-- to clear a bit that is 1 makes the number less
pub clear-lt : (n k : ℕ) → k < 64 → bit_at n k ≡ 1 → bit_and n (bit_not w64 (1 * 2 ^ k % 2 ^ 64)) < n
clear-lt n k below one =
    less _ n (and_le_l n (bit_not w64 (1 * 2 ^ k % 2 ^ 64))) (λ e.
    let bad : 0 ≡ 1 = sym (bit_at_clear_same w64 n k below) ∙ (ap (λ j. bit_at j k) e ∙ one) in absurd (omega arith))

-- a bit that a test did not find is 0
pub bit_at_untold : (b : Bool) (n t : ℕ) → ((b ≡ true) ↔ (bit_at n t ≡ 1)) → b ≡ false → bit_at n t ≡ 0
bit_at_untold b n t told untrue = grind (arith, cases_eq, bit_at-lt)

-- a number of 64 bits has its ones below 64
pub bit_at-within : (n t : ℕ) → n < 2 ^ 64 → bit_at n t ≡ 1 → t < 64
bit_at-within n t small one = elim (cases_lt t 64) [
  | inl within ↦ within
  | inr past ↦ not_both _ (bit_at_above n 64 t small past) one
]

-- to clear a bit leaves the others
pub bit_at_cleared_other : (n k t : ℕ) → n < 2 ^ 64 → k < 64 → t ≢ k → bit_at (bit_and n (bit_not w64 (1 * 2 ^ k % 2 ^ 64))) t ≡ bit_at n t
bit_at_cleared_other n k t small below other = elim (cases_lt t 64) [
  | inl within ↦ bit_at_clear_other w64 n k below t within other
  | inr past ↦
      let le = and_le_l n (bit_not w64 (1 * 2 ^ k % 2 ^ 64)) in
      bit_at_above _ 64 t (within_of _ n le small) past ∙ sym (bit_at_above n 64 t small past)
]
  where
    within_of : (m n : ℕ) → m ≤ n → n < 2 ^ 64 → m < 2 ^ 64
    within_of m n le lt = omega arith

-- the bits of a set that another lacks
pub bit_at_without : (a b t : ℕ) → a < 2 ^ 64 → b < 2 ^ 64 → bit_at (bit_and a (bit_not w64 b)) t ≡ min (bit_at a t) (1 - bit_at b t)
bit_at_without a b t a_in b_in = elim (cases_lt t 64) [
  | inl within ↦ bit_at_and a (bit_not w64 b) t ∙ ap (min (bit_at a t)) (bit_at_not w64 b t b_in within)
  | inr past ↦
      let none = bit_at_above a 64 t a_in past in
      bit_at_and a (bit_not w64 b) t ∙ ap (λ x. min x (bit_at (bit_not w64 b) t)) none ∙ nothing _ ∙ sym (ap (λ x. min x (1 - bit_at b t)) none ∙ nothing _)
]
  where
    nothing : (x : ℕ) → min 0 x ≡ 0
    nothing x = omega arith
