-- The operations on rows at one lane. A mask's lane is 255 or 0.
use Rattle.std.proofs.Common.{T, inl, inr, ◌==◌, if◌then◌else◌, subst, ◌≡◌, ◌≢◌, ℕ, zero, suc, ◌+◌, ◌≤◌, ◌<◌, ◌-◌, ◌/◌}
use Rattle.std.proofs.Common.{◌%◌, ◌^◌, Bool, true, false, not, cond, eqb, ltb, leb, max, List, [], ◌∷◌, map, length}
use Rattle.std.proofs.Common.{get_or, replicate, bit_and, refl, sym, ap, ◌∙◌, arith, Fits, w8, eqb-true}
use Rattle.egt_lanes.specs.Prelude.{length-map, and_mask, length-replicate, length-zip2, mask_l-mod, bit_mask_l}
use Rattle.egt_lanes.specs.Prelude.{cases_eq, eqb-false, bit_at, byte_score, zeroing_score, due_score, reach_score}
use Rattle.egt_lanes.specs.Prelude.{reach_due_score}
use Rattle.egt_lanes.proofs.Tests.{agreed, passes_below}
use lib.Lanes.{zip2, sel_l, mask_l, top, Each1}

abbrev pub below : ℕ → ℕ → ℕ
below a b = cond (ltb a b) 255 0

abbrev pub at_most : ℕ → ℕ → ℕ
at_most a b = cond (leb a b) 255 0

abbrev pub same : ℕ → ℕ → ℕ
same a b = cond (eqb a b) 255 0

abbrev pub other : ℕ → ℕ → ℕ
other a b = cond (not (eqb a b)) 255 0

-- the difference, wrapping
abbrev pub less : ℕ → ℕ → ℕ
less a b = (a + (2 ^ 8 - b)) % 2 ^ 8

abbrev pub halved : ℕ → ℕ → ℕ
halved a b = a / 2 ^ b

-- x where the mask is set, else y
abbrev chosen : ℕ → ℕ → ℕ → ℕ
chosen m x y = cond (top 7 m) x y

abbrev pub select : List ℕ → List ℕ → List ℕ → List ℕ
select ms xs ys = sel_l (map (top 7) ms) xs ys

greater_of : (a b : ℕ) → chosen (below a b) b a ≡ max a b
greater_of a b = grind arith

pub greater_at : (xs ys : List ℕ) (i : ℕ) → i < length xs → i < length ys → get_or (select (zip2 below xs ys) ys xs) i 0 ≡ max (get_or xs i 0) (get_or ys i 0)
greater_at [] ys i p q = absurd (omega arith)
greater_at (x ∷ xs) [] i p q = absurd (omega arith)
greater_at (x ∷ xs) (y ∷ ys) zero p q = greater_of x y
greater_at (x ∷ xs) (y ∷ ys) (suc i) p q = greater_at xs ys i (omega arith) (omega arith)

-- what is computed lane by lane, and of each byte is what is told
pub by_lanes : (f : ℕ → List ℕ → List ℕ) (g h : ℕ → ℕ) → ((n x : ℕ) (xs : List ℕ) → f (suc n) (x ∷ xs) ≡ g x ∷ f n xs)
    → T (passes_below (λ x. eqb (g x) (h x)) 256)
    → (xs : List ℕ) (i : ℕ) → i < length xs → Each1 (Fits w8) xs → get_or (f (length xs) xs) i 0 ≡ h (get_or xs i 0)
by_lanes f g h step all [] i p fits = absurd (omega arith)
by_lanes f g h step all (x ∷ xs) zero p fits =
    ap (λ r. get_or r 0 0) (step (length xs) x xs) ∙ agreed g h 256 all x fits.0.fits
by_lanes f g h step all (x ∷ xs) (suc i) p fits =
    ap (λ r. get_or r (suc i) 0) (step (length xs) x xs) ∙ by_lanes f g h step all xs i (omega arith) fits.1

-- ---- scores

-- of n lanes
abbrev pub byte_scores : ℕ → List ℕ → List ℕ
byte_scores n xs =
    let one = replicate n 1 in
    let half = zip2 halved xs one in
    select (zip2 same xs one) (replicate n 128)
    (select (zip2 same (zip2 bit_and xs one) one) (zip2 less (replicate n 0) half)
    (zip2 less (select (zip2 below half one) one half) one))

byte_scored : ℕ → ℕ
byte_scored x =
    chosen (same x 1) 128
    (chosen (same (bit_and x 1) 1) (less 0 (halved x 1)) (less (chosen (below (halved x 1) 1) 1 (halved x 1)) 1))

pub byte_scores_at : (xs : List ℕ) (i : ℕ) → i < length xs → Each1 (Fits w8) xs → get_or (byte_scores (length xs) xs) i 0 ≡ byte_score (get_or xs i 0)
unfolding byte_scored
byte_scores_at = by_lanes byte_scores byte_scored byte_score (λ n x xs. refl) tt

abbrev pub zeroed : ℕ → List ℕ → List ℕ
zeroed n xs = select (zip2 same xs (replicate n 128)) (replicate n 128) (select (zip2 below (replicate n 128) xs) (replicate n 255) (replicate n 0))

pub zeroed_at : (xs : List ℕ) (i : ℕ) → i < length xs → Each1 (Fits w8) xs → get_or (zeroed (length xs) xs) i 0 ≡ zeroing_score (get_or xs i 0)
zeroed_at = by_lanes zeroed (λ x. chosen (same x 128) 128 (chosen (below 128 x) 255 0)) zeroing_score (λ n x xs. refl) tt

abbrev pub due : ℕ → List ℕ → List ℕ
due n xs = select (zip2 at_most (replicate n 128) xs) (zip2 less (replicate n 0) xs) (zip2 less (replicate n 254) xs)

pub due_at : (xs : List ℕ) (i : ℕ) → i < length xs → Each1 (Fits w8) xs → get_or (due (length xs) xs) i 0 ≡ due_score (get_or xs i 0)
due_at = by_lanes due (λ x. chosen (at_most 128 x) (less 0 x) (less 254 x)) due_score (λ n x xs. refl) tt

abbrev pub reach_scores : ℕ → List ℕ → List ℕ
reach_scores n xs =
    let one = replicate n 1 in
    select (zip2 same xs one) (replicate n 128) (zip2 less (replicate n 0) (zip2 less (select (zip2 below xs one) one xs) one))

reach_scored : ℕ → ℕ
reach_scored x = chosen (same x 1) 128 (less 0 (less (chosen (below x 1) 1 x) 1))

pub reach_scores_at : (xs : List ℕ) (i : ℕ) → i < length xs → Each1 (Fits w8) xs → get_or (reach_scores (length xs) xs) i 0 ≡ reach_score (get_or xs i 0)
unfolding reach_scored
reach_scores_at = by_lanes reach_scores reach_scored reach_score (λ n x xs. refl) tt

-- by the scores less one
abbrev pub reach_due_by : ℕ → List ℕ → List ℕ
reach_due_by n xs = select (zip2 below xs (replicate n 128)) (replicate n 128) xs

abbrev pub reach_due : ℕ → List ℕ → List ℕ
reach_due n xs = reach_due_by n (zip2 less (select (zip2 below xs (replicate n 1)) (replicate n 1) xs) (replicate n 1))

reach_due_of : ℕ → ℕ
reach_due_of x =
    let y = less (chosen (below x 1) 1 x) 1 in
    chosen (below y 128) 128 y

pub reach_due_at : (xs : List ℕ) (i : ℕ) → i < length xs → Each1 (Fits w8) xs → get_or (reach_due (length xs) xs) i 0 ≡ reach_due_score (get_or xs i 0)
unfolding reach_due_of
reach_due_at = by_lanes reach_due reach_due_of reach_due_score (λ n x xs. refl) tt

-- ---- a choice by equal lanes

same_of : (a b x y : ℕ) → chosen (same a b) x y ≡ cond (eqb a b) x y
same_of a b x y = grind arith

pub same_at : (us ks xs ys : List ℕ) (i : ℕ) → i < length us → i < length ks → i < length xs → i < length ys
    → get_or (select (zip2 same us ks) xs ys) i 0 ≡ cond (eqb (get_or us i 0) (get_or ks i 0)) (get_or xs i 0) (get_or ys i 0)
same_at [] ks xs ys i p q r t = absurd (omega arith)
same_at (u ∷ us) [] xs ys i p q r t = absurd (omega arith)
same_at (u ∷ us) (k ∷ ks) [] ys i p q r t = absurd (omega arith)
same_at (u ∷ us) (k ∷ ks) (x ∷ xs) [] i p q r t = absurd (omega arith)
same_at (u ∷ us) (k ∷ ks) (x ∷ xs) (y ∷ ys) zero p q r t = same_of u k x y
same_at (u ∷ us) (k ∷ ks) (x ∷ xs) (y ∷ ys) (suc i) p q r t = same_at us ks xs ys i (omega arith) (omega arith) (omega arith) (omega arith)

-- ---- a test of all lanes

unset : (x : ℕ) → ◌≡◌ {A = ℕ} (cond (top 7 (other x 0)) 1 0) 0 → x ≡ 0
unset x = grind (arith, top, not, eqb-true)

none_set : (xs : List ℕ) → mask_l (map (top 7) (zip2 other xs (replicate (length xs) 0))) ≡ 0 → (i : ℕ) → get_or xs i 0 ≡ 0
none_set [] e i = refl
none_set (x ∷ xs) e zero = unset x (omega arith)
none_set (x ∷ xs) e (suc i) = none_set xs (omega arith) i

-- the bits of the lanes that are not 0
set_at : (xs : List ℕ) (i : ℕ) → i < length xs → get_or (map (top 7) (zip2 other xs (replicate (length xs) 0))) i false ≡ not (eqb (get_or xs i 0) 0)
set_at [] i p = absurd (omega arith)
set_at (x ∷ xs) zero p = go (eqb x 0)
  where
    go : (t : Bool) → top 7 (cond (not t) 255 0) ≡ not t
    go t = grind arith
set_at (x ∷ xs) (suc i) p = set_at xs i (omega arith)

one_unless : (b : Bool) → ◌≡◌ {A = ℕ} (cond (not b) 1 0) (cond b 0 1)
one_unless b = grind arith

pub lanes_bits : (xs : List ℕ) (i : ℕ) → length xs ≡ 64 → i < 64
    → bit_at (mask_l (map (top 7) (zip2 other xs (replicate 64 0))) % 2 ^ 64) i ≡ (if get_or xs i 0 == 0 then 0 else 1)
lanes_bits xs i long i_in =
    let ms = map (top 7) (zip2 other xs (replicate 64 0)) in
    let few : length ms ≤ 64 = omega (arith, length-map (zip2 other xs (replicate 64 0)) (top 7), length-zip2 other xs (replicate 64 0) long) in
    let here : get_or ms i false ≡ not (eqb (get_or xs i 0) 0) =
    subst (λ n. get_or (map (top 7) (zip2 other xs (replicate n 0))) i false ≡ not (eqb (get_or xs i 0) 0)) long (set_at xs i (omega arith)) in
    ap (λ m. bit_at m i) (mask_l-mod ms 64 few) ∙ bit_mask_l ms i ∙ ap (λ b. cond b 1 0) here ∙ one_unless (eqb (get_or xs i 0) 0)

-- the lanes that differ, by a third row, else 0
abbrev pub unlike : ℕ → List ℕ → List ℕ → List ℕ → List ℕ
unlike n xs ys ws = select (zip2 other xs ys) ws (replicate n 0)

unlike_of : (a b v : ℕ) → chosen (other a b) v 0 ≡ 0 → v ≢ 0 → a ≡ b
unlike_of a b v = grind (arith, not, eqb-true)

unlike_at : (xs ys ws : List ℕ) (i : ℕ) → i < length xs → length ys ≡ length xs → length ws ≡ length xs
    → get_or (unlike (length xs) xs ys ws) i 0 ≡ 0 → get_or ws i 0 ≢ 0 → get_or xs i 0 ≡ get_or ys i 0
unlike_at [] ys ws i p q r e some = absurd (omega arith)
unlike_at (x ∷ xs) [] ws i p q r e some = absurd (omega arith)
unlike_at (x ∷ xs) (y ∷ ys) [] i p q r e some = absurd (omega arith)
unlike_at (x ∷ xs) (y ∷ ys) (v ∷ ws) zero p q r e some = unlike_of x y v e some
unlike_at (x ∷ xs) (y ∷ ys) (v ∷ ws) (suc i) p q r e some = unlike_at xs ys ws i (omega arith) (omega arith) (omega arith) e some

length-unlike : (xs ys ws : List ℕ) → length ys ≡ length xs → length ws ≡ length xs → length (unlike (length xs) xs ys ws) ≡ length xs
length-unlike [] ys ws q r = refl
length-unlike (x ∷ xs) [] ws q r = absurd (omega arith)
length-unlike (x ∷ xs) (y ∷ ys) [] q r = absurd (omega arith)
length-unlike (x ∷ xs) (y ∷ ys) (v ∷ ws) q r = ap suc (length-unlike xs ys ws (omega arith) (omega arith))

abbrev pub some_set : ℕ → List ℕ → Bool
some_set n xs = not (eqb (mask_l (map (top 7) (zip2 other xs (replicate n 0))) % 2 ^ 64) 0)

not_false : (b : Bool) → not b ≡ false → b ≡ true
not_false b e = grind arith

all_zero : (xs : List ℕ) → length xs ≡ 64 → some_set (length xs) xs ≡ false → (i : ℕ) → get_or xs i 0 ≡ 0
all_zero xs long none =
    let ms = map (top 7) (zip2 other xs (replicate (length xs) 0)) in
    let few : length ms ≤ 64 = omega (arith, length-map (zip2 other xs (replicate (length xs) 0)) (top 7), length-zip2 other xs (replicate (length xs) 0) (sym (length-replicate (length xs) 0))) in
    none_set xs (sym (mask_l-mod ms 64 few) ∙ eqb-true _ _ (not_false _ none))

pub all_alike : (xs ys ws : List ℕ) → length xs ≡ 64 → length ys ≡ 64 → length ws ≡ 64 → some_set 64 (unlike 64 xs ys ws) ≡ false
    → (i : ℕ) → i < 64 → get_or ws i 0 ≢ 0 → get_or xs i 0 ≡ get_or ys i 0
all_alike xs ys ws p q r none i i_in some =
    let q' : length ys ≡ length xs = omega arith in
    let r' : length ws ≡ length xs = omega arith in
    let long : length (unlike (length xs) xs ys ws) ≡ 64 = length-unlike xs ys ws q' r' ∙ p in
    let none' : some_set (length (unlike (length xs) xs ys ws)) (unlike (length xs) xs ys ws) ≡ false =
    rw (long, p) none in
    unlike_at xs ys ws i (omega arith) q' r' (all_zero (unlike (length xs) xs ys ws) long none' i) some

some_lane : (xs : List ℕ) → mask_l (map (top 7) (zip2 other xs (replicate (length xs) 0))) ≢ 0 → (i : ℕ) × (i < length xs) × (get_or xs i 0 ≢ 0)
some_lane [] ne = absurd (ne refl)
some_lane (x ∷ xs) ne = elim (cases_eq x 0) [
  | inr some ↦ (0, omega arith, some)
  | inl none ↦
      let off : ◌≡◌ {A = ℕ} (cond (top 7 (other x 0)) 1 0) 0 = ap (λ v. cond (top 7 (other v 0)) 1 0) none in
      let r = some_lane xs (λ e. ne (omega arith)) in
      (suc r.0, omega (arith, r.1), r.2)
]

apart_of : (a b v : ℕ) → chosen (other a b) v 0 ≢ 0 → (v ≢ 0) × (a ≢ b)
apart_of a b v = grind (arith, not, eqb-false)

apart_at : (xs ys ws : List ℕ) (i : ℕ) → i < length xs → length ys ≡ length xs → length ws ≡ length xs
    → get_or (unlike (length xs) xs ys ws) i 0 ≢ 0 → (get_or ws i 0 ≢ 0) × (get_or xs i 0 ≢ get_or ys i 0)
apart_at [] ys ws i p q r ne = absurd (omega arith)
apart_at (x ∷ xs) [] ws i p q r ne = absurd (omega arith)
apart_at (x ∷ xs) (y ∷ ys) [] i p q r ne = absurd (omega arith)
apart_at (x ∷ xs) (y ∷ ys) (v ∷ ws) zero p q r ne = apart_of x y v ne
apart_at (x ∷ xs) (y ∷ ys) (v ∷ ws) (suc i) p q r ne = apart_at xs ys ws i (omega arith) (omega arith) (omega arith) ne

not_true : (b : Bool) → not b ≡ true → b ≡ false
not_true b e = grind arith

pub some_apart : (xs ys ws : List ℕ) → length xs ≡ 64 → length ys ≡ 64 → length ws ≡ 64 → some_set 64 (unlike 64 xs ys ws) ≡ true
    → (i : ℕ) × (i < 64) × (get_or ws i 0 ≢ 0) × (get_or xs i 0 ≢ get_or ys i 0)
some_apart xs ys ws p q r some =
    let q' : length ys ≡ length xs = omega arith in
    let r' : length ws ≡ length xs = omega arith in
    let us = unlike (length xs) xs ys ws in
    let long : length (unlike (length xs) xs ys ws) ≡ 64 = length-unlike xs ys ws q' r' ∙ p in
    let some' : some_set (length (unlike (length xs) xs ys ws)) (unlike (length xs) xs ys ws) ≡ true = rw (long, p) some in
    let ne : mask_l (map (top 7) (zip2 other us (replicate (length us) 0))) ≢ 0 = λ e. eqb-false _ _ (not_true _ some') (ap (λ m. m % 2 ^ 64) e) in
    let l = some_lane us ne in
    let i_in : l.0 < length xs = omega (arith, l.1) in
    let apart = apart_at xs ys ws l.0 i_in q' r' l.2 in
    (l.0, omega arith, apart.0, apart.1)

-- ---- entries of 16 bits

pub low_at : (xs : List ℕ) (i : ℕ) → i < length xs → get_or (map (λ x. x) (zip2 bit_and xs (replicate (length xs) 255))) i 0 ≡ get_or xs i 0 % 256
low_at [] i p = absurd (omega arith)
low_at (x ∷ xs) zero p = and_mask x 8
low_at (x ∷ xs) (suc i) p = low_at xs i (omega arith)

pub low_fits : (xs : List ℕ) (n : ℕ) → Each1 (Fits w8) (zip2 bit_and xs (replicate n 255))
low_fits [] n = tt
low_fits (x ∷ xs) zero = tt
low_fits (x ∷ xs) (suc n) = (record { fits = omega (arith, and_mask x 8) }, low_fits xs n)
