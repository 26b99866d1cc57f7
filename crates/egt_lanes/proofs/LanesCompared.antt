-- Entries of both columns, compared lane by lane. A mask's lane is 65535 or 0.
use Rattle.std.proofs.Common.{◌≡◌, ◌⊎◌, inl, inr, ℕ, zero, suc, ◌+◌, ◌-◌, ◌≤◌, ◌<◌, ◌%◌, ◌^◌, cond, ltb, List, [], ◌∷◌, map, length, get_or, replicate, bit_and, bit_or, refl, arith, Fits, w16, ltb-true, ltb-false}
use Rattle.std.proofs.Common.{◌*◌, ap, ◌∙◌, subst, slice_index}
use Rattle.egt_lanes.specs.Prelude.{cases_lt}
use Rattle.std.proofs.lemmas.Nat.{and_mask, le_or_l, le_or_r}
use lib.Lanes.{zip2, sel_l, fold_l, top, Each1}
use Rattle.egt_lanes.specs.Alike.{AreVoidOrAlike}

abbrev pub below : ℕ → ℕ → ℕ
below a b = cond (ltb a b) 65535 0

abbrev pub less : ℕ → ℕ → ℕ
less a b = (a + (2 ^ 16 - b)) % 2 ^ 16

-- x where the mask is set, else y
abbrev pub chosen : ℕ → ℕ → ℕ → ℕ
chosen m x y = cond (top 15 m) x y

abbrev pub select : List ℕ → List ℕ → List ℕ → List ℕ
select ms xs ys = sel_l (map (top 15) ms) xs ys

-- of n lanes
abbrev pub unlike_by : ℕ → List ℕ → List ℕ → List ℕ
unlike_by n low high =
    let limit = select (zip2 below low (replicate n 3)) (replicate n 1) (replicate n 253) in
    zip2 bit_or (zip2 less (select (zip2 below high limit) limit high) limit) (zip2 bit_and (zip2 less high low) (replicate n 1))

abbrev pub unlike : ℕ → List ℕ → List ℕ → List ℕ
unlike n xs ys = unlike_by n (select (zip2 below xs ys) xs ys) (select (zip2 below xs ys) ys xs)

limit_of : ℕ → ℕ
limit_of low = chosen (below low 3) 1 253

limit_is : (low : ℕ) → ((low < 3) × (limit_of low ≡ 1)) ⊎ ((3 ≤ low) × (limit_of low ≡ 253))
unfolding limit_of
limit_is low = grind (arith, ltb-true, ltb-false)

-- nothing is left of a number only under one that is no less
pub none_over : (a b : ℕ) → a < 65536 → b < 65536 → less (chosen (below a b) b a) b ≡ 0 → a ≤ b
none_over a b a_in b_in = grind (arith, ltb-true, ltb-false)

lane_by : ℕ → ℕ → ℕ
lane_by low high = bit_or (less (chosen (below high (limit_of low)) (limit_of low) high) (limit_of low)) (bit_and (less high low) 1)

alike_by : (low high : ℕ) → low ≤ high → high < 65536 → lane_by low high ≡ 0 → ((low ≡ high) × (low < 2)) ⊎ ((2 < low) × (high < 254) × (low % 2 ≡ high % 2))
unfolding lane_by
alike_by low high le high_in none =
    let over = le_or_l (less (chosen (below high (limit_of low)) (limit_of low) high) (limit_of low)) (bit_and (less high low) 1) in
    let odd = le_or_r (less (chosen (below high (limit_of low)) (limit_of low) high) (limit_of low)) (bit_and (less high low) 1) in
    let bit = and_mask (less high low) 1 in
    let even : (high - low) % 2 ≡ 0 = omega (arith, odd, none, bit, le, high_in) in
    elim (limit_is low) [
      | inl small ↦
          let limit = small.1 in
          let under = none_over high (limit_of low) high_in (omega (arith, limit)) (omega (arith, over, none)) in
          inl (omega (arith, under, limit, even, le), omega (arith, under, limit, le))
      | inr some ↦
          let limit = some.1 in
          let from = some.0 in
          let under = none_over high (limit_of low) high_in (omega (arith, limit)) (omega (arith, over, none)) in
          inr (omega (arith, from), omega (arith, under, limit), omega (arith, even, le))
    ]

alike_of : (a b : ℕ) → a < 65536 → b < 65536 → lane_by (chosen (below a b) a b) (chosen (below a b) b a) ≡ 0 → AreVoidOrAlike a b
alike_of a b a_in b_in = grind (arith, ltb-true, alike_by, ltb-false)

pub alike_at : (xs ys : List ℕ) (i : ℕ) → i < length xs → length ys ≡ length xs → Each1 (Fits w16) xs → Each1 (Fits w16) ys → get_or (unlike (length xs) xs ys) i 0 ≡ 0 → AreVoidOrAlike (get_or xs i 0) (get_or ys i 0)
unfolding lane_by limit_of
alike_at [] ys i p q fits_x fits_y none = absurd (omega arith)
alike_at (x ∷ xs) [] i p q fits_x fits_y none = absurd (omega arith)
alike_at (x ∷ xs) (y ∷ ys) zero p q fits_x fits_y none = alike_of x y fits_x.0.fits fits_y.0.fits none
alike_at (x ∷ xs) (y ∷ ys) (suc i) p q fits_x fits_y none = alike_at xs ys i (omega arith) (omega arith) fits_x.1 fits_y.1 none

-- a number put together from others is 0 only where they are
pub all_none : (a : ℕ) (xs : List ℕ) → fold_l bit_or a xs ≡ 0 → (a ≡ 0) × ((i : ℕ) → get_or xs i 0 ≡ 0)
all_none a [] none = (none, λ i. refl)
all_none a (x ∷ xs) none =
    let rest = all_none (bit_or a x) xs none in
    let both = rest.0 in
    let left = le_or_l a x in
    let right = le_or_r a x in
    (omega (arith, both, left), each rest.1 (omega (arith, both, right)))
  where
    each : ((i : ℕ) → get_or xs i 0 ≡ 0) → x ≡ 0 → (i : ℕ) → get_or (x ∷ xs) i 0 ≡ 0
    each rest here i = grind arith

-- what two columns show in all blocks before this one, and in the block that was loaded of them
pub more_blocks : (R : ℕ → ℕ → Type 0) (xs ys low high : List ℕ) (block : ℕ) → ((i : ℕ) → i < 64 * block → R (slice_index xs i) (slice_index ys i))
    → ((k : ℕ) → k < 64 → slice_index low k ≡ slice_index xs (64 * block + k)) → ((k : ℕ) → k < 64 → slice_index high k ≡ slice_index ys (64 * block + k))
    → ((k : ℕ) → k < 64 → R (slice_index low k) (slice_index high k)) → (i : ℕ) → i < 64 * (block + 1) → R (slice_index xs i) (slice_index ys i)
more_blocks R xs ys low high block before left right shows i less = elim (cases_lt i (64 * block)) [
  | inl early ↦ before i early
  | inr from ↦
      let k : ℕ = i - 64 * block in
      let k_in : k < 64 = omega (arith, less, from) in
      let at : 64 * block + k ≡ i = omega (arith, from) in
      subst (λ x. R x (slice_index ys i)) (left k k_in ∙ ap (slice_index xs) at)
      (subst (λ y. R (slice_index low k) y) (right k k_in ∙ ap (slice_index ys) at) (shows k k_in))
]
