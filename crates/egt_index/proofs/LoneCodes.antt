-- The codes of a class with one man beside the kings.
use Rattle.std.proofs.Common.{◌≡◌, ℕ, ◌+◌, ◌-◌, ◌*◌, ◌<◌, ◌≤◌, ◌&&◌, Bool, false, cond, List, [], ◌∷◌, ◌++◌, map, None}
use Rattle.std.proofs.Common.{arith, refl, sym, subst}
use Rattle.egt_index.specs.Prelude.{side_number, Kind, Man, Side, White, Black, Material, material_of, king_square}
use Rattle.egt_index.specs.Prelude.{number_from, number_of, product, IsLoneMan, IsLoneRow, lone_stand, kind_digits}
use Rattle.egt_index.specs.Prelude.{kind_less, bases, has_pawn, has_pawns, has_target, king_base, man_of, men_bases}
use Rattle.egt_index.specs.Prelude.{men_beside, size_of, SpellsMen, Tells, TellsMen, list_of, rest_of, Stand}
use Rattle.egt_index.proofs.Coding.{AreDigits-append, last_digits}
use Rattle.egt_index.proofs.Decoded.{code_of_parts}
use Rattle.egt_index.proofs.MixedDigits.{number_of-below}
use Rattle.egt_index.proofs.Opposed.{may_stand}
use Rattle.egt_index.proofs.Placing.{some_digits, twice_within, within}
use Rattle.egt_index.proofs.MenNumber.{number_on, number_told}
use Rattle.egt_index.proofs.DigitsTaken.{spells_men}
use Rattle.egt_board.proofs.Parts.{tails}

-- ---- one man beside the kings

-- he cannot make a target
alone_sides : (strong weak : List Kind) (man : Man) → map (man_of White) strong ++ map (man_of Black) weak ≡ man ∷ [] → (has_pawn strong && has_pawn weak) ≡ false
alone_sides [] weak man are = refl
alone_sides (k ∷ ks) [] man are = of (has_pawn (k ∷ ks))
  where
    of : (b : Bool) → (b && false) ≡ false
    of b = grind arith
alone_sides (k ∷ []) (w ∷ ws) man are = absurd (cc)
alone_sides (k ∷ l ∷ ks) (w ∷ ws) man are = absurd (cc)

pub alone_beside : (c : ℕ) (man : Man) → IsLoneMan c man → man ∷ [] ≡ men_beside (material_of c)
alone_beside c man is = tails (tails is.are)

pub no_target : (c : ℕ) (man : Man) → IsLoneMan c man → has_target (material_of c) ≡ false
no_target c man is = alone_sides (material_of c).strong (material_of c).weak man (sym (alone_beside c man is))

-- ---- codes

-- a code that tells men is below the class's size
pub told_below : (c code : ℕ) (stand : Stand) (side : Side) → TellsMen false c code stand side → code < size_of c
unfolding size_of
told_below c code stand side tells = subst (λ n. n < product (bases m)) (sym is) (number_of-below (bases m) digits (AreDigits-append (men_bases m) tells.men.digits _ _ tells.men.are (last_digits (has_target m) side None)))
  where
    m : Material
    m = material_of c

    digits : List ℕ
    digits = tells.men.digits ++ side_number side ∷ cond (has_target m) (0 ∷ []) []

    is : code ≡ number_of (bases m) digits
    is = grind (arith, code_of_parts)

module _ (c king white black : ℕ) (man : Man) (is : IsLoneMan c man) (king_in : king < king_base (has_pawns (material_of c))) (king_is : king_square (has_pawns (material_of c)) king ≡ white) (black_in : black < 64) where
  module _ (side : Side) (digit : ℕ) (below : digit < kind_digits man.kind) where
    stand : Stand
    stand = lone_stand white black man (digit + kind_less man.kind)

    number : ℕ
    number = (king * 64 + black) * kind_digits man.kind + digit

    spelled : SpellsMen (material_of c) number (list_of stand)
    unfolding stand number
    spelled =
        subst (λ n. SpellsMen (material_of c) n (list_of stand)) same
        (spells_men (material_of c) (number_on king stand) king white (rest_of stand) king_in (sym king_is)
        (subst (λ l. Tells (has_pawns (material_of c)) (number_on king stand) l king (rest_of stand)) (tails is.are)
        (number_told (has_pawns (material_of c)) king stand (is.beside, may_stand man (digit + kind_less man.kind) (omega arith) (let twice = twice_within man.kind in omega (arith, below, twice))) tt black_in (omega (arith, below, few)) tt)))
      where
        few : kind_digits man.kind + kind_less man.kind ≤ 64
        few = within man.kind

        same : number_on king stand ≡ (king * 64 + black) * kind_digits man.kind + digit
        same = grind arith

    told : TellsMen false c ((king * 64 + black) * kind_digits man.kind * 2 + side_number side + 2 * digit) (lone_stand white black man (digit + kind_less man.kind)) side
    unfolding stand number
    told = record {
      number = number;
      men = spelled;
      filled = λ e. absurd (cc);
      ends = record {
        number_is =
            subst (λ b. (king * 64 + black) * kind_digits man.kind * 2 + side_number side + 2 * digit ≡ number_from ((king * 64 + black) * kind_digits man.kind + digit) (2 ∷ cond b (2 ∷ []) []) (side_number side ∷ cond b (0 ∷ []) [])) (sym (no_target c man is)) (omega arith);
        never = λ none. refl;
      };
    }

  pub lone_told : IsLoneRow c ((king * 64 + black) * kind_digits man.kind * 2) white black man
  unfolding told
  lone_told = record {
    targets = no_target c man is;
    within =
        let any = some_digits man.kind in
        let last = told_below c _ _ Black (told Black (kind_digits man.kind - 1) (omega (arith, any))) in
        omega (arith, any, last);
    tells = λ side digit below. told side digit below;
  }
