-- Numbers of mixed digits: in order as their digits are, and each of one list of digits.
use Rattle.std.proofs.Common.{◌≡◌, ℕ, ◌+◌, ◌*◌, ◌<◌, ◌≤◌, ◌⊎◌, List, [], ◌∷◌, arith, refl, ap, subst, mul_assoc}
use Rattle.egt_index.specs.Prelude.{cases_lt, number_from, number_of, AreDigits, product}

-- a digit behind does not make up for a greater number before it
higher : (a b base digit other : ℕ) → a < b → digit < base → a * base + digit < b * base + other
higher a b base digit other lt fits = grind arith

pub number_from-lt : (bases digits others : List ℕ) (a b : ℕ) → AreDigits bases digits → AreDigits bases others → a < b
    → number_from a bases digits < number_from b bases others
number_from-lt [] [] [] a b here there lt = lt
number_from-lt [] (d ∷ ds) others a b here there lt = absurd here
number_from-lt [] [] (e ∷ es) a b here there lt = absurd there
number_from-lt (base ∷ bases) [] others a b here there lt = absurd here
number_from-lt (base ∷ bases) (d ∷ ds) [] a b here there lt = absurd there
number_from-lt (base ∷ bases) (d ∷ ds) (e ∷ es) a b here there lt =
    number_from-lt bases ds es (a * base + d) (b * base + e) here.1 there.1 (higher a b base d e lt here.0)

-- equal numbers have equal digits
pub number_from-same : (bases digits others : List ℕ) (a b : ℕ) → AreDigits bases digits → AreDigits bases others
    → number_from a bases digits ≡ number_from b bases others → (a ≡ b) × (digits ≡ others)
number_from-same [] [] [] a b here there same = (same, refl)
number_from-same [] (d ∷ ds) others a b here there same = absurd here
number_from-same [] [] (e ∷ es) a b here there same = absurd there
number_from-same (base ∷ bases) [] others a b here there same = absurd here
number_from-same (base ∷ bases) (d ∷ ds) [] a b here there same = absurd there
number_from-same (base ∷ bases) (d ∷ ds) (e ∷ es) a b here there same =
    let rest = number_from-same bases ds es (a * base + d) (b * base + e) here.1 there.1 same in
    let high : a ≡ b = equal_high (cases_lt a b) (cases_lt b a) rest.0 in
    let low : d ≡ e = equal_low high rest.0 in
    (high, cons low rest.1)
  where
    equal_high : (a < b) ⊎ (b ≤ a) → (b < a) ⊎ (a ≤ b) → a * base + d ≡ b * base + e → a ≡ b
    equal_high h h' sum = grind arith

    equal_low : a ≡ b → a * base + d ≡ b * base + e → d ≡ e
    equal_low h sum = omega (arith, ap (λ x. x * base) h)

    cons : d ≡ e → ds ≡ es → d ∷ ds ≡ e ∷ es
    cons p q = cc

-- digits spell a number below the product of their bases
pub number_from-below : (bases digits : List ℕ) (a b : ℕ) → AreDigits bases digits → a < b → number_from a bases digits < b * product bases
number_from-below [] [] a b here lt = omega arith
number_from-below [] (d ∷ ds) a b here lt = absurd here
number_from-below (base ∷ bases) [] a b here lt = absurd here
number_from-below (base ∷ bases) (d ∷ ds) a b here lt =
    let rest = number_from-below bases ds (a * base + d) (b * base) here.1 (higher_by a b lt) in
    subst (λ n. number_from (a * base + d) bases ds < n) (mul_assoc b base (product bases)) rest
  where
    higher_by : (a b : ℕ) → a < b → a * base + d < b * base
    higher_by a b lt = omega (arith, higher a b base d 0 lt here.0)

pub number_of-below : (bases digits : List ℕ) → AreDigits bases digits → number_of bases digits < product bases
number_of-below bases digits here = let le = number_from-below bases digits 0 1 here (omega arith) in omega arith
