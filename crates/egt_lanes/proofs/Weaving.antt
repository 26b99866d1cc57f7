-- Rows woven into one another, and blocks in which rows and lanes are exchanged.
use Rattle.std.proofs.Common.{◌≡◌, ℕ, ◌+◌, ◌-◌, ◌*◌, ◌/◌, ◌%◌, ◌<◌, ◌≤◌, ◌==◌, if◌then◌else◌, eqb, T, List, [], ◌++◌}
use Rattle.std.proofs.Common.{map, length, get_or, refl, ap, ◌∙◌, arith, eqb-true, get_or-set_other}
use Rattle.egt_lanes.specs.Prelude.{range_with_len, set, length-set, eqb-false, cases_lt, cases_eq, get_or-set_at}
use Rattle.egt_lanes.specs.Prelude.{get_or-map, get_or_append_left, get_or-append_right, at}
use lib.Lanes.{pick_l}
use Rattle.egt_lanes.proofs.Tests.{passes_below, agreed}

-- lane k of two rows in turn, one after the other
abbrev pub turn_of : ℕ → ℕ
turn_of k = k / 2 + 64 * (k % 2)

woven_from : (xs ys : List ℕ) (k : ℕ) → length xs ≡ 64 → k < 128 → get_or (xs ++ ys) (turn_of k) 0 ≡ get_or (if k % 2 == 0 then xs else ys) (k / 2) 0
woven_from xs ys k long k_in = grind (arith, eqb, eqb-true, get_or_append_left, eqb-false, get_or-append_right)

-- 64 lanes from the n-th on, n even
pub woven_at : (xs ys : List ℕ) (n b m : ℕ) → m ≡ n / 2 + b / 2 → length xs ≡ 64 → n ≤ 64 → n % 2 ≡ 0 → T (passes_below (λ i. eqb (get_or (map turn_of (range_with_len n 64)) i 0) (turn_of (n + i))) 64)
    → b < 64 → get_or (pick_l 0 (xs ++ ys) (map turn_of (range_with_len n 64))) b 0 ≡ get_or (if b % 2 == 0 then xs else ys) m 0
woven_at xs ys n b m is long small even right b_in =
    let same : (n + b) % 2 ≡ b % 2 = omega arith in
    let there : (n + b) / 2 ≡ m = omega arith in
    get_or-map (λ k. get_or (xs ++ ys) k 0) (map turn_of (range_with_len n 64)) b 0 0 (let all : length (map turn_of (range_with_len n 64)) ≡ 64 = refl in omega arith)
    ∙ ap (λ k. get_or (xs ++ ys) k 0) (agreed (λ i. get_or (map turn_of (range_with_len n 64)) i 0) (λ i. turn_of (n + i)) 64 right b b_in)
    ∙ woven_from xs ys (n + b) long (omega arith)
    ∙ ap (λ m. get_or (if m == 0 then xs else ys) ((n + b) / 2) 0) same ∙ ap (λ m. get_or (if b % 2 == 0 then xs else ys) m 0) there

-- ---- six rounds exchange rows and lanes

-- of the twelve bits of row and lane the last becomes the first
abbrev pub rolled : ℕ → ℕ
rolled n = n / 2 + 2048 * (n % 2)

abbrev pub place : List (List ℕ) → ℕ → ℕ
place block n = at block (n / 64) (n % 64)

abbrev pub IsRolled : List (List ℕ) → List (List ℕ) → Type 0
IsRolled to from = (a b : ℕ) → a < 64 → b < 64 → at to a b ≡ at from (a / 2 + 32 * (b % 2)) (32 * (a % 2) + b / 2)

rolled-within : (n : ℕ) → n < 4096 → rolled n < 4096
rolled-within n n_in = omega arith

rolled_place : (to from : List (List ℕ)) → IsRolled to from → (n : ℕ) → n < 4096 → place to n ≡ place from (rolled n)
rolled_place to from h n n_in = grind arith

rolled_six : (n : ℕ) → n < 4096 → rolled (rolled (rolled (rolled (rolled (rolled n))))) ≡ 64 * (n % 64) + n / 64
rolled_six n n_in = agreed (λ n. rolled (rolled (rolled (rolled (rolled (rolled n)))))) (λ n. 64 * (n % 64) + n / 64) 4096 tt n n_in

pub exchanged : (b0 b1 b2 b3 b4 b5 b6 : List (List ℕ)) → IsRolled b1 b0 → IsRolled b2 b1 → IsRolled b3 b2 → IsRolled b4 b3 → IsRolled b5 b4 → IsRolled b6 b5
    → (a b : ℕ) → a < 64 → b < 64 → at b6 a b ≡ at b0 b a
exchanged b0 b1 b2 b3 b4 b5 b6 h1 h2 h3 h4 h5 h6 a b a_in b_in = grind (arith, rolled-within, at, rolled_place, rolled_six)

-- ---- a round: two rows at a time

either_row : (from : List (List ℕ)) (i b m : ℕ) → get_or (if b % 2 == 0 then get_or from i [] else get_or from (i + 32) []) m 0 ≡ at from (i + 32 * (b % 2)) m
either_row from i b m = grind (arith, get_or, eqb-true, eqb-false)

pub two_rows : (out from : List (List ℕ)) (low high : List ℕ) (i : ℕ) → length out ≡ 64 → i < 32
    → ((a b : ℕ) → a < 2 * i → b < 64 → at out a b ≡ at from (a / 2 + 32 * (b % 2)) (32 * (a % 2) + b / 2))
    → ((b : ℕ) → b < 64 → get_or low b 0 ≡ get_or (if b % 2 == 0 then get_or from i [] else get_or from (i + 32) []) (b / 2) 0)
    → ((b : ℕ) → b < 64 → get_or high b 0 ≡ get_or (if b % 2 == 0 then get_or from i [] else get_or from (i + 32) []) (32 + b / 2) 0)
    → (a b : ℕ) → a < 2 * (i + 1) → b < 64 → at (set (set out (2 * i) low) (2 * i + 1) high) a b ≡ at from (a / 2 + 32 * (b % 2)) (32 * (a % 2) + b / 2)
two_rows out from low high i long i_in before first second a b a_in b_in = grind (arith, cases_lt, get_or-set_other, set, cases_eq, get_or-set_at, either_row, at, length-set)
