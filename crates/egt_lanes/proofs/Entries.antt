-- Every second entry.
use Rattle.std.proofs.Common.{Bool, ◌≡◌, ℕ, ◌+◌, ◌*◌, ◌-◌, ◌<◌, ◌≤◌, ◌⊎◌, nat_lt, if◌then◌else◌, eqb, T}
use Rattle.std.proofs.Common.{List, ◌++◌, length, get_or, sym, ap, ◌∙◌, inl, inr, arith}
use Rattle.egt_lanes.specs.Prelude.{cases_lt, get_or-map, get_or_append_left, get_or-append_right, nat_tests, Side}
use Rattle.egt_lanes.specs.Prelude.{side_number}
use lib.Lanes.{pick_l}
use Rattle.egt_lanes.proofs.Tests.{passes_below, agreed}

pub second_at : (low high ks result : List ℕ) (n m : ℕ) → length ks ≡ 64 → T (passes_below (λ s. eqb (get_or ks s 0) (2 * s + n)) 64)
    → result ≡ pick_l 0 (low ++ high) ks → m ≡ n → (s : ℕ) → s < 64 → get_or result s 0 ≡ get_or (low ++ high) (2 * s + m) 0
second_at low high ks result n m all right is same s s_in =
    ap (λ r. get_or r s 0) is
    ∙ get_or-map (λ k. get_or (low ++ high) k 0) ks s 0 0 (omega arith)
    ∙ ap (λ k. get_or (low ++ high) k 0) (agreed (λ s. get_or ks s 0) (λ s. 2 * s + n) 64 right s s_in)
    ∙ ap (λ m. get_or (low ++ high) (2 * s + m) 0) (sym same)

-- from two loads, the second of which begins at n
pub joined_at : (low high entries : List ℕ) (n k j : ℕ) → length low ≡ 64
    → ((i : ℕ) → i < 64 → get_or low i 0 ≡ get_or entries (0 + i) 0) → ((i : ℕ) → i < 64 → get_or high i 0 ≡ get_or entries (n + i) 0)
    → k < 128 → (k < 64 → j ≡ k) → (64 ≤ k → j + 64 ≡ n + k) → get_or (low ++ high) k 0 ≡ get_or entries j 0
joined_at low high entries n k j long first second k_in below above = elim (cases_lt k 64) [
  | inl l ↦
      let there : 0 + k ≡ j = omega (arith, below l) in
      get_or_append_left low high 0 k (omega arith) ∙ first k l ∙ ap (λ m. get_or entries m 0) there
  | inr g ↦
      let there : n + (k - 64) ≡ j = omega (arith, above g) in
      get_or-append_right low high 64 k 0 long g ∙ second (k - 64) (omega arith) ∙ ap (λ m. get_or entries m 0) there
]

pub side_number-small : (side : Side) → side_number side < 2
side_number-small side = grind arith

-- where the entries of a square of the ranks 2 to 7 lie among those of two loads of which the second begins at 32; else 64
abbrev pub pawn_place : ℕ → ℕ
pawn_place s = if nat_lt s 8 then 64 else (if nat_lt s 40 then s - 8 else (if nat_lt s 56 then s + 8 else 64))

pub pawn_place-low : (s : ℕ) → 8 ≤ s → s < 40 → pawn_place s ≡ s - 8
pawn_place-low s from to = grind (arith, nat_tests)

pub pawn_place-high : (s : ℕ) → 40 ≤ s → s < 56 → pawn_place s ≡ s + 8
pawn_place-high s from to = grind (arith, nat_tests)

pub pawn_place-edge : (s : ℕ) → (s < 8) ⊎ (56 ≤ s) → pawn_place s ≡ 64
pawn_place-edge s edge = grind (arith, nat_tests)

pub bit-small : (b : Bool) → (if b then 1 else 0) < 2
bit-small b = grind arith

-- a rank down from the ranks 2 to 7; else 64
abbrev pub target_place : ℕ → ℕ
target_place s = if nat_lt s 8 then 64 else (if nat_lt s 56 then s - 8 else 64)

pub target_place-middle : (s : ℕ) → 8 ≤ s → s < 56 → target_place s ≡ s - 8
target_place-middle s from to = grind (arith, nat_tests)

pub target_place-edge : (s : ℕ) → (s < 8) ⊎ (56 ≤ s) → target_place s ≡ 64
target_place-edge s edge = grind (arith, nat_tests)
