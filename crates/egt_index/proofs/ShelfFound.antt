-- Which shelves a class with two men beside the kings has: one behind each number of their digits before the last one.
use Rattle.std.proofs.Common.{◌≡◌, ◌≢◌, ℕ, ◌+◌, ◌*◌, ◌/◌, ◌%◌, ◌<◌, ◌≤◌, Bool, true, false, cond, List, [], ◌∷◌, ◌++◌}
use Rattle.std.proofs.Common.{map, Some, None, arith, refl, sym, ap, ◌∙◌}
use Rattle.egt_index.specs.Prelude.{div-add-mod', div-lt_iff_lt-mul, lt_of_mul-lt-mul_left, mod-lt, mul-le-mul_right}
use Rattle.egt_index.specs.Prelude.{king_of, Man, White, Black, material_of, king_square, product, IsBefore}
use Rattle.egt_index.specs.Prelude.{IsNoneBefore, TellsLast, half_of, places, kind_digits, kind_less, last_of, AreMenOf}
use Rattle.egt_index.specs.Prelude.{IsShelfBehind, IsWithin, stand_with, base_of, has_pawns, has_target, king_base}
use Rattle.egt_index.specs.Prelude.{men_beside, size_of, SpellsMen, Entry, list_of, ShelfMen, Stand}
use Rattle.egt_index.proofs.NumbersOfCodes.{digits_some, half_plain, half_twice, of_targets, places_of_last, places_some}
use Rattle.egt_index.proofs.Opposed.{may_stand}
use Rattle.egt_index.proofs.Placing.{digit_on, tells, twice_within, within}
use Rattle.egt_index.proofs.ShelfCodes.{last_told, spelled_on}

-- past the last shelf there is none
pub none_within : (c shelf : ℕ) → size_of c ≤ shelf * (2 * places c) → IsWithin c shelf → ⊥
none_within c shelf past within = let some = places_some c in omega arith

module _ (c : ℕ) (men : ShelfMen) (is_of : AreMenOf c men) where
  abbrev pawns : Bool
  pawns = has_pawns (material_of c)

  abbrev one : ℕ
  one = kind_digits men.first.kind

  -- how many numbers the digits of the kings and the first man make
  abbrev prefixes : ℕ
  prefixes = king_base pawns * 64 * one

  last : last_of (men_beside (material_of c)) ≡ Some men.last
  last = last_told c men is_of

  len : places c ≡ kind_digits men.last.kind
  len = places_of_last c men.last last

  size_is : size_of c ≡ product (map (base_of pawns) (king_of White ∷ king_of Black ∷ men.first ∷ men.last ∷ []) ++ 2 ∷ cond (has_target (material_of c)) (2 ∷ []) [])
  unfolding size_of
  size_is = ap (λ (list : List Man). product (map (base_of pawns) list ++ 2 ∷ cond (has_target (material_of c)) (2 ∷ []) [])) (sym is_of.are)

  size_by : (b : Bool) → has_target (material_of c) ≡ b → size_of c ≡ king_base pawns * (64 * (one * (places c * (2 * product (cond b (2 ∷ []) [])))))
  size_by b targets = grind (arith, size_is, king_base, base_of, last, product, digit_on, len)

  half_is : half_of c ≡ prefixes * (2 * places c)
  half_is = of_targets c
      (λ none. let size = size_by false none in let half = half_plain c none in omega arith)
      (λ has. let size = size_by true has in let half = half_twice c has in omega arith)

  -- there is a shelf behind each of these numbers
  pub a_shelf_behind : (targeted : Bool) (king black digit high : ℕ) → king < king_base pawns → black < 64 → digit < one → high ≡ (king * 64 + black) * one + digit → (has_target (material_of c) ≡ false → targeted ≡ false)
      → (shelf : ℕ) × IsShelfBehind targeted c shelf high
  a_shelf_behind targeted king black digit high king_in black_in digit_in is may = (
    high + cond targeted prefixes 0,
    record { first = first targeted; within = all; may = may },
  )
    where
      few : high + 1 ≤ prefixes
      few = grind arith

      all : (high + 1) * (2 * places c) ≤ half_of c
      all = let le = mul-le-mul_right (2 * places c) few in let half = half_is in omega arith

      first : (targeted : Bool) → (high + cond targeted prefixes 0) * (2 * places c) ≡ high * (2 * places c) + cond targeted (half_of c) 0
      first targeted = grind (arith, half_is)

  -- and the digits of each such number spell men
  module _ (targeted : Bool) (shelf high : ℕ) (c_in : c < 36) (at : IsShelfBehind targeted c shelf high) where
    few : high < prefixes
    few = below high prefixes (2 * places c) (let some = places_some c in omega arith) (let within = at.within in let half = half_is in omega arith)
      where
        below : (a b n : ℕ) → 0 < n → (a + 1) * n ≤ b * n → a < b
        below a b n some le = lt_of_mul-lt-mul_left n (omega arith)

    king : ℕ
    king = high / one / 64

    black : ℕ
    black = high / one % 64

    digit : ℕ
    digit = high % one

    there : ShelfMen
    there = record { white = king_square pawns king; black = black; first = men.first; on = digit + kind_less men.first.kind; last = men.last }

    spelled : SpellsMen (material_of c) (high * kind_digits men.last.kind + 0) (list_of (stand_with there (0 + kind_less men.last.kind)))
    unfolding there king black digit
    spelled =
        spelled_on targeted c shelf high there c_in last is_of.last_beside at (record { are = is_of.are; one_beside = is_of.one_beside; last_beside = is_of.last_beside }) king digit (omega (arith, high_few)) refl (omega arith)
        (let in_all = within men.first.kind in omega (arith, digit_in)) (may_stand men.first (digit + kind_less men.first.kind) (omega arith) (let twice = twice_within men.first.kind in omega (arith, digit_in))) (omega arith) high_is 0 (digits_some (Some men.last))
      where
        high_few : high / one < king_base pawns * 64
        high_few = (div-lt_iff_lt-mul (digits_some (Some men.first))).1 few

        digit_in : high % one < one
        digit_in = mod-lt high (digits_some (Some men.first))

        high_is : high ≡ (high / one / 64 * 64 + high / one % 64) * one + high % one
        high_is = sym (ap (λ n. n * one + high % one) (div-add-mod' (high / one) 64) ∙ div-add-mod' high one)

    entry : Entry
    entry = Some (men.last, 0 + kind_less men.last.kind)

    told : TellsLast c (high * kind_digits men.last.kind + 0) high entry
    unfolding entry
    told = tells c high men.last c_in last is_of.last_beside 0 (digits_some (Some men.last))

    pub some_before : IsNoneBefore c high → ⊥
    some_before none = let men_are = spelled in none (high * kind_digits men.last.kind + 0) entry told men_are.digits men_are.are men_are.number_is

    pub one_before : (stand : Stand) → IsBefore c high stand → stand.first ≢ None
    unfolding entry
    one_before stand before none = let alone = before.filled (high * kind_digits men.last.kind + 0) entry told none in cc
