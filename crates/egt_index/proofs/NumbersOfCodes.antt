-- Numbers of positions and the codes that they stand for.
use Rattle.std.proofs.Common.{◌≡◌, ℕ, ◌+◌, ◌-◌, ◌*◌, ◌/◌, ◌%◌, ◌<◌, ◌≤◌, ◌==◌, nat_lt, Bool, true, false, cond, [], ◌∷◌}
use Rattle.std.proofs.Common.{Option, Some, None, arith, refl, sym, ap, ◌∙◌, subst}
use Rattle.egt_index.specs.Prelude.{cases_lt, eqb-true, lt-ltb, Side, Material, product, last_of, bases, size_of, Ends}
use Rattle.egt_index.specs.Prelude.{mul-le-mul_right, side_number, passes_below, material_of, number_from, IsShelfBehind}
use Rattle.egt_index.specs.Prelude.{Man, all_below, materials, digits_at, kind_digits, number_in, has_target, men_beside}
use Rattle.egt_index.specs.Numbers.{code_of, half_of, number_of, places}
use Rattle.egt_index.proofs.OnePosition.{one_pawn_each}
use Rattle.egt_index.proofs.Placing.{some_digits}

pub of_targets : {A : Type 0} (c : ℕ) → (has_target (material_of c) ≡ false → A) → (has_target (material_of c) ≡ true → A) → A
of_targets {A = A} c none some = of (has_target (material_of c)) refl
  where
    of : (b : Bool) → has_target (material_of c) ≡ b → A
    of b is = grind arith

-- ---- how many numbers have no target

pub half_plain : (c : ℕ) → has_target (material_of c) ≡ false → half_of c ≡ size_of c
unfolding half_of
half_plain c none = ap (λ b. cond {A = ℕ} b (size_of c / 2) (size_of c)) none

pub half_targets : (c : ℕ) → has_target (material_of c) ≡ true → half_of c ≡ size_of c / 2
unfolding half_of
half_targets c has = ap (λ b. cond {A = ℕ} b (size_of c / 2) (size_of c)) has

-- the only class with targets
size_targets : (c : ℕ) → has_target (material_of c) ≡ true → size_of c ≡ 18874368
unfolding size_of
size_targets c has = ap (λ (m : Material). product (bases m)) (one_pawn_each c has)

places_targets : (c : ℕ) → has_target (material_of c) ≡ true → places c ≡ 48
unfolding places
places_targets c has = ap (λ (m : Material). digits_at (last_of (men_beside m))) (one_pawn_each c has)

pub half_twice : (c : ℕ) → has_target (material_of c) ≡ true → size_of c ≡ 2 * half_of c
half_twice c has = let size = size_targets c has in let half = half_targets c has in omega arith

pub half_within : (c : ℕ) → half_of c ≤ size_of c
half_within c = of_targets c (λ none. let is = half_plain c none in omega arith) (λ has. let is = half_twice c has in omega arith)

-- it is of whole shelves
pub half_whole : (c d : ℕ) → d ≡ places c → size_of c % (2 * places c) ≡ 0 → half_of c / (2 * d) * (2 * places c) ≡ half_of c
half_whole c d is whole = subst (λ k. half_of c / (2 * k) * (2 * places c) ≡ half_of c) (sym is)
    (of_targets c
    (λ none. whole_of (half_of c) (2 * places c) (subst (λ n. n % (2 * places c) ≡ 0) (sym (half_plain c none)) whole))
    (λ has. let size = size_targets c has in let half = half_targets c has in
    let number : half_of c ≡ 9437184 = omega arith in
    subst (λ p. half_of c / (2 * p) * (2 * p) ≡ half_of c) (sym (places_targets c has)) (omega arith)))
  where
    whole_of : (n k : ℕ) → n % k ≡ 0 → n / k * k ≡ n
    whole_of n k none = grind arith

-- ---- numbers and codes

pub code_plain : (c n : ℕ) → has_target (material_of c) ≡ false → code_of c n ≡ n
unfolding code_of
code_plain c n none = ap (λ b. cond {A = ℕ} b (cond (nat_lt n (half_of c)) (2 * n) (2 * (n - half_of c) + 1)) n) none

code_targets : (c n : ℕ) → has_target (material_of c) ≡ true → code_of c n ≡ cond (nat_lt n (half_of c)) (2 * n) (2 * (n - half_of c) + 1)
unfolding code_of
code_targets c n has = ap (λ b. cond {A = ℕ} b (cond (nat_lt n (half_of c)) (2 * n) (2 * (n - half_of c) + 1)) n) has

pub code_low : (c n : ℕ) → has_target (material_of c) ≡ true → n < half_of c → code_of c n ≡ 2 * n
code_low c n has lt = code_targets c n has ∙ ap (λ b. cond {A = ℕ} b (2 * n) (2 * (n - half_of c) + 1)) (lt-ltb n (half_of c) lt)

pub code_high : (c n : ℕ) → has_target (material_of c) ≡ true → half_of c ≤ n → code_of c n ≡ 2 * (n - half_of c) + 1
code_high c n has ge = grind (arith, code_targets)

pub number_plain : (c code : ℕ) → has_target (material_of c) ≡ false → number_of c code ≡ code
unfolding number_of
number_plain c code none = ap (λ b. cond {A = ℕ} b (code / 2 + code % 2 * half_of c) code) none

number_targets : (c code : ℕ) → has_target (material_of c) ≡ true → number_of c code ≡ code / 2 + code % 2 * half_of c
unfolding number_of
number_targets c code has = ap (λ b. cond {A = ℕ} b (code / 2 + code % 2 * half_of c) code) has

-- by the code's last digit
number_even : (c code : ℕ) → has_target (material_of c) ≡ true → code % 2 ≡ 0 → number_of c code ≡ code / 2
number_even c code has even = let is = number_targets c code has in let none = ap (λ d. d * half_of c) even in omega arith

number_odd : (c code : ℕ) → has_target (material_of c) ≡ true → code % 2 ≡ 1 → number_of c code ≡ code / 2 + half_of c
number_odd c code has odd = let is = number_targets c code has in let one = ap (λ d. d * half_of c) odd in omega arith

pub code_below : (c n : ℕ) → n < size_of c → code_of c n < size_of c
code_below c n lt = grind (arith, of_targets, code_plain, half_twice, cases_lt, half_of, code_low, code_high)

pub number_below : (c n : ℕ) → code_of c n < size_of c → n < size_of c
number_below c n lt = grind (arith, of_targets, code_plain, half_twice, cases_lt, half_of, code_high)

pub number_within : (c code : ℕ) → code < size_of c → number_of c code < size_of c
number_within c code lt = grind (arith, of_targets, number_plain, half_twice, cases_lt, number_even, number_odd)

pub code_back : (c code : ℕ) → code < size_of c → code_of c (number_of c code) ≡ code
code_back c code lt = grind (arith, of_targets, code_plain, number_of, number_plain, half_twice, cases_lt, number_even, code_low, number_odd, code_high)

pub number_back : (c n : ℕ) → n < size_of c → number_of c (code_of c n) ≡ n
number_back c n lt = grind (arith, of_targets, number_plain, code_of, code_plain, half_twice, cases_lt, half_of, code_low, number_even, code_high, number_odd)

-- ---- shelves of numbers

pub places_of_last : (c : ℕ) (man : Man) → last_of (men_beside (material_of c)) ≡ Some man → places c ≡ kind_digits man.kind
unfolding places
places_of_last c man last = ap digits_at last

pub places_of_none : (c : ℕ) → last_of (men_beside (material_of c)) ≡ None → places c ≡ 1
unfolding places
places_of_none c none = ap digits_at none

pub digits_some : (o : Option Man) → 0 < digits_at o
digits_some o = grind (arith, some_digits)

pub places_some : (c : ℕ) → 0 < places c
unfolding places
places_some c = digits_some (last_of (men_beside (material_of c)))

-- a class ends with a shelf
all_whole : all_below (λ c. size_of c % (2 * places c) == 0) 36 ≡ true
unfolding all_below size_of places material_of materials
all_whole = refl

pub whole_numbers : (c : ℕ) → c < 36 → size_of c % (2 * places c) ≡ 0
whole_numbers c c_in = eqb-true (size_of c % (2 * places c)) 0 (passes_below (λ c. size_of c % (2 * places c) == 0) 36 c all_whole c_in)

-- prefixes and shelves, by how many prefixes there are
pub prefix_low : (c prefix prefixes : ℕ) → prefixes * (2 * places c) ≡ half_of c → prefix < prefixes → (prefix + 1) * (2 * places c) ≤ half_of c
prefix_low c prefix prefixes all lt = grind (arith, places)

pub prefix_past : (c prefix prefixes : ℕ) → prefixes * (2 * places c) ≡ half_of c → prefixes ≤ prefix → (prefix + 1) * (2 * places c) ≤ half_of c → ⊥
prefix_past c prefix prefixes all ge within = let le = mul-le-mul_right (2 * places c) ge in let some = places_some c in omega arith

pub shelf_past : (c shelf prefixes : ℕ) → prefixes * (2 * places c) ≡ half_of c → has_target (material_of c) ≡ false → prefixes ≤ shelf → size_of c ≤ shelf * (2 * places c)
shelf_past c shelf prefixes all none ge = let le = mul-le-mul_right (2 * places c) ge in let plain = half_plain c none in omega arith

pub shelf_past_both : (c shelf prefixes : ℕ) → prefixes * (2 * places c) ≡ half_of c → has_target (material_of c) ≡ true → 2 * prefixes ≤ shelf → size_of c ≤ shelf * (2 * places c)
shelf_past_both c shelf prefixes all has ge = let le = mul-le-mul_right (2 * places c) ge in let twice = half_twice c has in omega arith

-- the ends of a number's code
module _ (targeted : Bool) (c shelf high : ℕ) (at : IsShelfBehind targeted c shelf high) (side : Side) (k : ℕ) (k_in : k < places c) where
  abbrev number : ℕ
  number = number_in c shelf side k

  -- how it goes on behind the prefix
  abbrev low : ℕ
  low = (high * places c + k) * 2 + side_number side

  low_is : high * (2 * places c) + side_number side + 2 * k ≡ low
  low_is = omega arith

  side_few : (side : Side) → side_number side ≤ 1
  side_few side = grind arith

  low_in : low < half_of c
  low_in = let within = at.within in let few = side_few side in let is = low_is in omega arith

  coded : (targeted : Bool) → IsShelfBehind targeted c shelf high → has_target (material_of c) ≡ true → code_of c number ≡ low * 2 + cond targeted 1 0
  coded h0 at has = grind (arith, low_is, low_in, code_of, code_low, half_of, code_high)

  plain : (targeted : Bool) → targeted ≡ false → IsShelfBehind targeted c shelf high → has_target (material_of c) ≡ false → code_of c number ≡ low
  plain targeted e h none = grind (arith, low_is, code_plain)

  pub ends_behind : Ends (material_of c) (code_of c number) (high * places c + k) side targeted
  ends_behind = record {
    number_is = of_targets c
        (λ none. subst (λ b. code_of c number ≡ number_from (high * places c + k) (2 ∷ cond b (2 ∷ []) []) (side_number side ∷ cond b (cond targeted 1 0 ∷ []) [])) (sym none) (plain targeted (at.may none) at none))
        (λ has. subst (λ b. code_of c number ≡ number_from (high * places c + k) (2 ∷ cond b (2 ∷ []) []) (side_number side ∷ cond b (cond targeted 1 0 ∷ []) [])) (sym has) (coded targeted at has));
    never = at.may;
  }
