-- Digits taken off a number.
use Rattle.std.proofs.Common.{◌≡◌, ℕ, ◌+◌, ◌*◌, ◌/◌, ◌%◌, ◌<◌, ◌≤◌, Bool, List, [], ◌∷◌, ◌++◌, map, arith, refl, sym}
use Rattle.std.proofs.Common.{ap, ◌∙◌, subst}
use Rattle.egt_index.specs.Prelude.{map-append, Side, White, Black, Kind, P, Man, number_from, AreDigits, king_base}
use Rattle.egt_index.specs.Prelude.{base_by, base_of, has_pawns, men_beside, king_square, square_by_digit, square_of}
use Rattle.egt_index.specs.Prelude.{placed, Splits, Tells, SpellsMen, SpellsNoMen, king_of, Material}
use Rattle.egt_index.proofs.MixedDigits.{number_from-same}
use Rattle.egt_index.proofs.Coding.{AreDigits-append}
use Rattle.egt_index.proofs.Coded.{number_append}

pawn_base : (pawns : Bool) (side : Side) (kind : Kind) → kind ≡ P → base_by pawns side kind ≡ 48
pawn_base pawns side kind is = grind arith

pawn_square : (pawns : Bool) (side : Side) (kind : Kind) (digit : ℕ) → kind ≡ P → square_by_digit pawns side kind digit ≡ digit + 8
pawn_square pawns side kind digit is = grind arith

pub split_pawn : (number : ℕ) (man : Man) (square : ℕ) → man.kind ≡ P → square ≡ number % 48 + 8 → Splits number man (number / 48) square
split_pawn number man square is on = record {
  digit = number % 48;
  below = λ pawns. subst (λ b. number % 48 < b) (sym (pawn_base pawns man.side man.kind is)) (omega arith);
  is = λ pawns. pawn_square pawns man.side man.kind (number % 48) is ∙ sym on;
  number_is = λ pawns. subst (λ b. number ≡ number / 48 * b + number % 48) (sym (pawn_base pawns man.side man.kind is)) (omega arith);
}

placed_append : (pawns : Bool) (men others : List Man) (digits more : List ℕ) → AreDigits (map (base_of pawns) men) digits → placed pawns (men ++ others) (digits ++ more) ≡ placed pawns men digits ++ placed pawns others more
placed_append pawns [] others [] more are = refl
placed_append pawns [] others (d ∷ ds) more are = absurd are
placed_append pawns (man ∷ men) others [] more are = absurd are
placed_append pawns (man ∷ men) others (d ∷ ds) more are = ap (λ list. (man, square_of pawns man d) ∷ list) (placed_append pawns men others ds more are.1)

-- one man after another
pub tells_on : (pawns : Bool) (number high top : ℕ) (men others : List Man) (list more : List (Man × ℕ)) → Tells pawns number others high more → Tells pawns high men top list → Tells pawns number (men ++ others) top (list ++ more)
tells_on pawns number high top men others list more low up = record {
  digits = up.digits ++ low.digits;
  are = subst (λ bases. AreDigits bases (up.digits ++ low.digits)) (sym (map-append (base_of pawns) men others)) (AreDigits-append (map (base_of pawns) men) up.digits (map (base_of pawns) others) low.digits up.are low.are);
  list_is = ap (λ x. x ++ more) up.list_is ∙ ap (λ x. placed pawns men up.digits ++ x) low.list_is ∙ sym (placed_append pawns men others up.digits low.digits up.are);
  number_is =
      low.number_is
      ∙ ap (λ h. number_from h (map (base_of pawns) others) low.digits) up.number_is
      ∙ sym (number_append (map (base_of pawns) men) up.digits (map (base_of pawns) others) low.digits top up.are)
      ∙ ap (λ bases. number_from top bases (up.digits ++ low.digits)) (sym (map-append (base_of pawns) men others));
}

pub tells_one : (pawns : Bool) (number : ℕ) (man : Man) (high square : ℕ) → Splits number man high square → Tells pawns number (man ∷ []) high ((man, square) ∷ [])
tells_one pawns number man high square s = record {
  digits = s.digit ∷ [];
  are = (s.below pawns, tt);
  list_is = ap (λ q. (man, q) ∷ []) (sym (s.is pawns));
  number_is = s.number_is pawns;
}

none_before : (b n : ℕ) → 0 * b + n ≡ n
none_before b n = omega arith

-- with the white king in front it is all of the men
pub spells_men : (m : Material) (number high white : ℕ) (list : List (Man × ℕ)) → high < king_base (has_pawns m) → white ≡ king_square (has_pawns m) high
    → Tells (has_pawns m) number (king_of Black ∷ men_beside m) high list → SpellsMen m number ((king_of White, white) ∷ list)
spells_men m number high white list below is tells = record {
  digits = high ∷ tells.digits;
  are = (below, tells.are);
  list_is = ap (λ q. (king_of White, q) ∷ list) is ∙ ap (λ x. (king_of White, king_square (has_pawns m) high) ∷ x) tells.list_is;
  number_is = tells.number_is ∙ ap (λ h. number_from h (map (base_of (has_pawns m)) (king_of Black ∷ men_beside m)) tells.digits) (sym (none_before (king_base (has_pawns m)) high));
}

pub spells_no_men : (m : Material) (number high : ℕ) (list : List (Man × ℕ)) → king_base (has_pawns m) ≤ high → Tells (has_pawns m) number (king_of Black ∷ men_beside m) high list → SpellsNoMen m number
spells_no_men m number high list past tells [] are is = are
spells_no_men m number high list past tells (d ∷ ds) are is =
    let same = number_from-same (map (base_of (has_pawns m)) (king_of Black ∷ men_beside m)) ds tells.digits (0 * king_base (has_pawns m) + d) high are.1 tells.are (sym is ∙ tells.number_is) in
    let lt = are.0 in let e = same.0 in let f = none_before (king_base (has_pawns m)) d in omega arith

-- the men beside the kings, after the black king
pub all_told : (pawns : Bool) (number first_high second_high high black : ℕ) (men first second : List Man) (next last : List (Man × ℕ)) → first ++ second ≡ men
    → Tells pawns number second second_high last → Tells pawns second_high first first_high next → Splits first_high (king_of Black) high black
    → Tells pawns number (king_of Black ∷ men) high ((king_of Black, black) ∷ (next ++ last))
all_told pawns number first_high second_high high black men first second next last are low up king =
    subst (λ x. Tells pawns number (king_of Black ∷ x) high ((king_of Black, black) ∷ (next ++ last))) are
    (tells_on pawns number first_high high (king_of Black ∷ []) (first ++ second) ((king_of Black, black) ∷ []) (next ++ last)
    (tells_on pawns number second_high first_high first second next last low up) (tells_one pawns first_high (king_of Black) high black king))
