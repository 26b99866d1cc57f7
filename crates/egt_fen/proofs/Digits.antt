-- The digits of a clock.
use Rattle.std.proofs.Common.{◌≡◌, ℕ, zero, suc, ◌+◌, ◌-◌, ◌*◌, ◌<◌, ◌≤◌, true, List, [], ◌∷◌, length, take, get_or}
use Rattle.std.proofs.Common.{arith, lit≤}
use Rattle.egt_fen.specs.Prelude.{digit_value, is_ascii_digit, list_all, digits_value, AllDigits, and_parts, nat_tests}
use Rattle.egt_fen.specs.Prelude.{digits_value_more, digits_value-lt, digits_value-take-le, pow-le-pow_right}

-- a byte whose value is below ten is a decimal digit
pub record IsDigit (c : ℕ) : Type 0 where
  pub low : 48 ≤ c
  pub high : c < 58
  pub value : digit_value c ≡ c - 48

pub digit_is : (c : ℕ) → digit_value c < 10 → IsDigit c
digit_is c small = record { low = grind (arith, nat_tests); high = grind (arith, nat_tests); value = grind (arith, nat_tests) }

pub digit_at : (ds : List ℕ) (i : ℕ) → AllDigits 10 ds → i < length ds → IsDigit (get_or ds i 0)
digit_at [] i all i_in = absurd (omega arith)
digit_at (d ∷ ds) zero all i_in = digit_is d all.0
digit_at (d ∷ ds) (suc i) all i_in = digit_at ds i all.1 (omega arith)

small_digit : (c : ℕ) → is_ascii_digit c ≡ true → digit_value c < 10
small_digit c h = grind (arith, nat_tests)

pub AllDigits-from_test : (ds : List ℕ) → list_all is_ascii_digit ds ≡ true → AllDigits 10 ds
AllDigits-from_test [] h = tt
AllDigits-from_test (d ∷ ds) h =
    let parts = and_parts (is_ascii_digit d) (list_all is_ascii_digit ds) h in
    (small_digit d parts.0, AllDigits-from_test ds parts.1)

-- nine digits write a number below ten to the ninth
pub digits_value_small : (ds : List ℕ) → AllDigits 10 ds → length ds ≤ 9 → digits_value 10 ds < 1000000000
digits_value_small ds all few = grind (arith, digits_value-lt, pow-le-pow_right, lit≤)

-- one more digit
pub record OneMore (ds : List ℕ) (i value : ℕ) : Type 0 where
  pub low : 48 ≤ get_or ds i 0
  pub goes_on : digits_value 10 (take (i + 1) ds) ≡ 10 * value + (get_or ds i 0 - 48)
  pub small : 10 * value + (get_or ds i 0 - 48) < 1000000000

pub one_more : (ds : List ℕ) (i value : ℕ) → AllDigits 10 ds → length ds ≤ 9 → i < length ds → value ≡ digits_value 10 (take i ds) → OneMore ds i value
one_more ds i value all few i_in e =
    let digit = digit_at ds i all i_in in
    let more = digits_value_more 10 ds i i_in in
    let le = digits_value-take-le 10 ds (i + 1) (lit≤ tt) in
    let whole = digits_value_small ds all few in
    let same : digits_value 10 (take (i + 1) ds) ≡ 10 * value + (get_or ds i 0 - 48) = omega (arith, digit.value) in
    record { low = digit.low; goes_on = same; small = omega arith }
