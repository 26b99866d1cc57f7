-- The men of a shelf's codes.
use Rattle.std.proofs.Common.{◌≡◌, ◌≢◌, ◌↔◌, ℕ, ◌+◌, ◌-◌, ◌*◌, ◌%◌, ◌<◌, ◌≤◌, Bool, true, cond, List, [], ◌∷◌, ◌++◌}
use Rattle.std.proofs.Common.{Option, Some, None, IfSome, arith, refl, sym, ap, subst}
use Rattle.egt_index.specs.Prelude.{option_to_list, king_of, MayStand, Man, Side, White, Black, material_of}
use Rattle.egt_index.specs.Prelude.{king_square, IsBefore, kind_digits, kind_less, code_of, half_of, places, last_of}
use Rattle.egt_index.specs.Prelude.{AreMenOf, IsShelf, IsShelfBehind, IsShelfOf, number_in, stand_with, has_pawns}
use Rattle.egt_index.specs.Prelude.{has_target, king_base, men_beside, men_in_order, SpellsMen, Tells, TellsMen}
use Rattle.egt_index.specs.Prelude.{list_of, rest_of, with_last, ShelfMen, Stand}
use Rattle.egt_index.proofs.NumbersOfCodes.{code_high, code_low, places_of_last}
use Rattle.egt_index.proofs.Numbered.{ends}
use Rattle.egt_index.proofs.Opposed.{may_stand}
use Rattle.egt_index.proofs.Placing.{some_digits, tells, twice_within, within}
use Rattle.egt_index.proofs.MenNumber.{number_on, number_told}
use Rattle.egt_index.proofs.Setups.{men_spelled}
use Rattle.egt_index.proofs.DigitsTaken.{spells_men}
use Rattle.egt_board.proofs.Parts.{heads, tails}

module _ (targeted : Bool) (c shelf high : ℕ) (men : ShelfMen) (c_in : c < 36) (last : last_of (men_beside (material_of c)) ≡ Some men.last) (other : men.last ≢ king_of White) (at : IsShelfBehind targeted c shelf high) where
  -- a number's code tells the men where the digits of the men do
  told_code : (side : Side) (digit : ℕ) → digit < kind_digits men.last.kind → SpellsMen (material_of c) (high * kind_digits men.last.kind + digit) (list_of (stand_with men (digit + kind_less men.last.kind)))
      → TellsMen targeted c (code_of c (number_in c shelf side digit)) (stand_with men (digit + kind_less men.last.kind)) side
  told_code side digit below spells = grind (arith, ends)

  -- the men who are found before the last one
  module _ (one_other : men.first ∷ men.last ∷ [] ≡ men_beside (material_of c) → men.first ≢ king_of White) (stand : Stand) (before : IsBefore c high stand) (white : stand.white ≡ men.white) (black : stand.black ≡ men.black) (next : stand.first ≡ Some (men.first, men.on)) where
    spelled : (digit : ℕ) → digit < kind_digits men.last.kind → SpellsMen (material_of c) (high * kind_digits men.last.kind + digit) (list_of (stand_with men (digit + kind_less men.last.kind)))
    spelled digit below =
        subst (λ (s : Stand). SpellsMen (material_of c) (high * kind_digits men.last.kind + digit) (list_of s)) same
        (before.men (high * kind_digits men.last.kind + digit) (Some (men.last, digit + kind_less men.last.kind)) (tells c high men.last c_in last other digit below))
      where
        same : with_last stand (Some (men.last, digit + kind_less men.last.kind)) ≡ stand_with men (digit + kind_less men.last.kind)
        same = grind (arith, stand, kind_less)

    all_men : king_of White ∷ king_of Black ∷ men.first ∷ men.last ∷ [] ≡ men_in_order (material_of c)
    all_men = men_spelled c (high * kind_digits men.last.kind + 0) (list_of (stand_with men (0 + kind_less men.last.kind))) (spelled 0 (some_digits men.last.kind))

    pub shelf_before : IsShelf c shelf men
    shelf_before = record {
      men_of = record {
        are = all_men;
        one_beside = one_other (tails (tails all_men));
        last_beside = other;
      };
      len = places_of_last c men.last last;
      targeted = targeted;
      tells = λ side digit below. told_code side digit below (spelled digit below);
    }

  -- those of these squares
  module _ (is_of : AreMenOf c men) (king digit : ℕ) (king_in : king < king_base (has_pawns (material_of c))) (king_is : king_square (has_pawns (material_of c)) king ≡ men.white) (black_in : men.black < 64) (on_in : men.on < 64)
      (may : MayStand men.first men.on) (digit_is : digit ≡ men.on - kind_less men.first.kind) (high_is : high ≡ (king * 64 + men.black) * kind_digits men.first.kind + digit) where
    pub spelled_on : (d : ℕ) → d < kind_digits men.last.kind → SpellsMen (material_of c) (high * kind_digits men.last.kind + d) (list_of (stand_with men (d + kind_less men.last.kind)))
    spelled_on d below =
        subst (λ n. SpellsMen (material_of c) n (list_of stand)) number
        (spells_men (material_of c) (number_on king stand) king men.white (rest_of stand) king_in (sym king_is)
        (subst (λ l. Tells (has_pawns (material_of c)) (number_on king stand) l king (rest_of stand)) (tails is_of.are)
        (number_told (has_pawns (material_of c)) king stand (is_of.one_beside, may) (other, may_stand men.last (d + kind_less men.last.kind) (omega arith) (let twice = twice_within men.last.kind in omega (arith, below, twice))) black_in on_in (omega (arith, below, few)))))
      where
        stand : Stand
        stand = stand_with men (d + kind_less men.last.kind)

        few : kind_digits men.last.kind + kind_less men.last.kind ≤ 64
        few = within men.last.kind

        number : number_on king stand ≡ high * kind_digits men.last.kind + d
        number = grind arith

    pub shelf_on : IsShelfOf targeted c shelf men
    shelf_on = (
      record {
        men_of = is_of;
        len = places_of_last c men.last last;
        targeted = targeted;
        tells = λ side d below. told_code side d below (spelled_on d below);
      },
      refl,
    )

-- the class's last man is theirs
pub last_told : (c : ℕ) (men : ShelfMen) → AreMenOf c men → last_of (men_beside (material_of c)) ≡ Some men.last
last_told c men is_of = sym (ap last_of (tails (tails is_of.are)))

-- of the men beside the kings the first is none
pub first_beside : (x y : Option Man) (one last : Man) (men : List Man) → option_to_list x ++ option_to_list y ≡ men → IfSome x (λ man. man ≢ king_of White) → (x ≡ None → y ≡ None) → one ∷ last ∷ [] ≡ men → one ≢ king_of White
first_beside x y one last men are not none is = grind (arith, heads)

-- the positions of the upper shelves have a target, and no others
pub halves : (c shelf : ℕ) (men : ShelfMen) (is : IsShelf c shelf men) → has_target (material_of c) ≡ true → (is.targeted ≡ true) ↔ (half_of c ≤ shelf * (2 * places c))
halves c shelf men is has = (there, back)
  where
    tells : TellsMen is.targeted c (code_of c (number_in c shelf White 0)) (stand_with men (0 + kind_less men.last.kind)) White
    tells = is.tells White 0 (some_digits men.last.kind)

    same : number_in c shelf White 0 ≡ shelf * (2 * places c)
    same = omega arith

    coded : code_of c (shelf * (2 * places c)) ≡ tells.number * 4 + cond is.targeted 1 0
    coded = grind (arith, code_of, tells)

    flag : (b : Bool) → cond {A = ℕ} b 1 0 % 2 ≡ 1 → b ≡ true
    flag b odd = grind arith

    there : is.targeted ≡ true → half_of c ≤ shelf * (2 * places c)
    there targeted = grind (arith, places, code_low)

    back : half_of c ≤ shelf * (2 * places c) → is.targeted ≡ true
    back ge = flag is.targeted (let high = code_high c (shelf * (2 * places c)) has ge in let code = coded in omega arith)
