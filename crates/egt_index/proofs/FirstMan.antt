-- Codes of images that have their kings on the same squares, compared by the first man's.
use Rattle.std.proofs.Common.{◌≡◌, ◌≢◌, ℕ, ◌+◌, ◌*◌, ◌/◌, ◌%◌, ◌<◌, Bool, false, cond, eqb, List, [], ◌∷◌, ◌++◌, map}
use Rattle.std.proofs.Common.{Some, None, arith, refl, sym, ap, ◌∙◌, inl, inr, subst, IfSome}
use Rattle.std.proofs.lemmas.Bool.{ne_eqb}
use Rattle.egt_index.specs.Prelude.{IfMoved, Entry, Man, White, Black, king_of, side_number, men_of, Stands, Setup}
use Rattle.egt_index.specs.Prelude.{IsAdmissible, turned_man, turned_square, Material, material_of, Beats, IsFirstOfTwo}
use Rattle.egt_index.specs.Prelude.{Keeps, Spells, king_square, men_at, placed, square_of, target_digits, number_from}
use Rattle.egt_index.specs.Prelude.{number_of, AreDigits, Facts, base_of, king_base, men_beside, has_pawns, has_target}
use Rattle.egt_index.specs.Prelude.{list_of, AllStand, IsListed, IsTurn, Stand}
use Rattle.egt_index.proofs.Beating.{SpelledHome, stands_after}
use Rattle.egt_index.proofs.Coding.{all_digits}
use Rattle.egt_index.proofs.Listing.{AreApart, apart_of, get_here, listed, listed_stands}
use Rattle.egt_index.proofs.MixedDigits.{number_from-lt}
use Rattle.egt_index.proofs.Picking.{lesser_digit, same_digit}
use Rattle.std.specs.FinMap as placement

-- the bases of the digits behind the first man's
abbrev last_bases : Material → Man → List ℕ
last_bases m last = base_of (has_pawns m) last ∷ 2 ∷ cond (has_target m) (2 ∷ []) []

-- the squares of the kings and of the first man are told by the highest digits of the code
record FirstTold (m : Material) (code w b s : ℕ) (man last : Man) : Type 0 where
  digit : ℕ
  below : digit < king_base (has_pawns m)
  is : king_square (has_pawns m) digit ≡ w
  own : ℕ
  own_below : own < base_of (has_pawns m) man
  own_is : square_of (has_pawns m) man own ≡ s
  rest : List ℕ
  are : AreDigits (last_bases m last) rest
  number : code ≡ number_from ((digit * 64 + b) * base_of (has_pawns m) man + own) (last_bases m last) rest

module _ (c : ℕ) (man last : Man) (two : men_beside (material_of c) ≡ man ∷ last ∷ []) (apart : man ≢ last) (no_white : man ≢ king_of White) (no_black : man ≢ king_of Black) where
  abbrev m : Material
  m = material_of c

  abbrev all_men : List Man → List Man
  all_men men = king_of White ∷ king_of Black ∷ men

  first_told : (code : ℕ) (p : Setup) (w b s : ℕ) → Spells c code p → Stands p.men w (king_of White) → Stands p.men b (king_of Black) → Stands p.men s man → FirstTold m code w b s man last
  first_told code p w b s spells white black first =
      of_digits spells.digits
      (subst (λ men. AreDigits (map (base_of (has_pawns m)) (all_men men)) spells.digits) two spells.are_digits)
      (subst (λ men. p.men ≡ men_of (placed (has_pawns m) (all_men men) spells.digits)) two spells.men)
      (subst (λ men. AreApart (placed (has_pawns m) (all_men men) spells.digits)) two (apart_of (men_at m spells.digits) spells.apart.apart))
      (subst (λ men. code ≡ number_of (map (base_of (has_pawns m)) (all_men men) ++ ends) (spells.digits ++ ended)) two spells.number)
      (subst (λ men. AreDigits (map (base_of (has_pawns m)) (all_men men) ++ ends) (spells.digits ++ ended)) two (all_digits m spells.digits p spells.are_digits))
    where
      ends : List ℕ
      ends = 2 ∷ cond (has_target m) (2 ∷ []) []

      ended : List ℕ
      ended = side_number p.side ∷ target_digits m p.target

      own_men : List Man
      own_men = all_men (man ∷ last ∷ [])

      of_digits : (digits : List ℕ) → AreDigits (map (base_of (has_pawns m)) own_men) digits → p.men ≡ men_of (placed (has_pawns m) own_men digits) → AreApart (placed (has_pawns m) own_men digits)
          → code ≡ number_of (map (base_of (has_pawns m)) own_men ++ ends) (digits ++ ended) → AreDigits (map (base_of (has_pawns m)) own_men ++ ends) (digits ++ ended) → FirstTold m code w b s man last
      of_digits [] are is free number all = absurd are
      of_digits (d ∷ []) are is free number all = absurd are.1
      of_digits (d ∷ e ∷ []) are is free number all = absurd are.1.1
      of_digits (d ∷ e ∷ f ∷ []) are is free number all = absurd are.1.1.1
      of_digits (d ∷ e ∷ f ∷ g ∷ h ∷ ds) are is free number all = absurd are.1.1.1.1
      of_digits (d ∷ e ∷ f ∷ g ∷ []) are is free number all =
          let men = placed (has_pawns m) own_men (d ∷ e ∷ f ∷ g ∷ []) in
          let kings = spells.admissible.kings in
          let one : Stands p.men (king_square (has_pawns m) d) (king_of White) = ap (λ men. placement.get men (king_square (has_pawns m) d)) is ∙ get_here (king_of White, king_square (has_pawns m) d) _ _ refl in
          let two : Stands p.men e (king_of Black) = ap (λ men. placement.get men e) is ∙ listed_stands men (king_of Black) e free (inr (inl (refl, refl))) in
          let there : e ≡ b = kings.black_there.only e two ∙ sym (kings.black_there.only b black) in
          record {
            digit = d;
            below = are.0;
            is = kings.white_there.only _ one ∙ sym (kings.white_there.only w white);
            own = f;
            own_below = are.1.1.0;
            own_is = of_list (listed men man s (subst (λ all. Stands all s man) is first));
            rest = g ∷ ended;
            are = all.1.1.1;
            number = number ∙ ap (λ h. number_from ((h * 64 + e) * base_of (has_pawns m) man + f) (last_bases m last) (g ∷ ended)) (let none : 0 * king_base (has_pawns m) + d ≡ d = omega arith in none)
                ∙ ap (λ x. number_from ((d * 64 + x) * base_of (has_pawns m) man + f) (last_bases m last) (g ∷ ended)) there;
          }
        where
          of_list : IsListed (placed (has_pawns m) own_men (d ∷ e ∷ f ∷ g ∷ [])) man s → square_of (has_pawns m) man f ≡ s
          of_list h = grind arith

  -- of two codes that is less whose position has the first man on the lesser square, where the kings stand on the same
  pub first_less : (code other : ℕ) (p q : Setup) (w b s t : ℕ) → Spells c code p → Spells c other q → Stands p.men w (king_of White) → Stands p.men b (king_of Black) → Stands q.men w (king_of White) → Stands q.men b (king_of Black)
      → Stands p.men s man → Stands q.men t man → s < t → code < other
  first_less code other p q w b s t spells others white black white_there black_there first first_there lt =
      let here = first_told code p w b s spells white black first in
      let there = first_told other q w b t others white_there black_there first_there in
      let king : here.digit ≡ there.digit = same_digit (has_pawns m) (king_of White) here.digit there.digit here.below there.below (here.is ∙ sym there.is) in
      let own = lesser_digit (has_pawns m) man here.own there.own here.own_below (subst (λ n. n < square_of (has_pawns m) man there.own) (sym here.own_is) (subst (λ n. s < n) (sym there.own_is) lt)) in
      let high : (here.digit * 64 + b) * base_of (has_pawns m) man ≡ (there.digit * 64 + b) * base_of (has_pawns m) man = ap (λ d. (d * 64 + b) * base_of (has_pawns m) man) king in
      let less = number_from-lt (last_bases m last) here.rest there.rest _ _ here.are there.are (omega (arith, high, own)) in
      subst (λ n. n < other) (sym here.number) (subst (λ n. number_from ((here.digit * 64 + b) * base_of (has_pawns m) man + here.own) (last_bases m last) here.rest < n) (sym there.number) less)

same_kings : (w b x y : ℕ) → 64 * w + b ≡ 64 * x + y → b < 64 → y < 64 → (w ≡ x) × (b ≡ y)
same_kings w b x y same b_in y_in = (omega (arith, same, b_in, y_in), omega (arith, same, b_in, y_in))

-- the first man of two beside the kings, whom a turn leaves on their squares without exchanging colours
module _ (facts : Facts) (c code t : ℕ) (stand : Stand) (p : Setup) (e : Man × ℕ) (of_two : IsFirstOfTwo c e.0) (next : stand.first ≡ Some e) (t_in : t < 8) (ok : IsAdmissible p)
    (all : AllStand (eqb (t / 8) 1) p.men (list_of stand)) (s : Spells c code p) where
  abbrev after : ℕ → ℕ
  after square = turned_square (t % 8) (eqb (t / 8) 1) square

  plain : eqb (t / 8) 1 ≡ false
  plain = ne_eqb (t / 8) 1 (λ same. omega (arith, same, t_in))

  here : AllStand false p.men (list_of stand)
  here = subst (λ f. AllStand f p.men (list_of stand)) plain all

  first : (flips : Bool) → AllStand flips p.men (list_of stand) → Stands p.men e.1 (turned_man flips e.0) × (e.1 ≢ stand.black) × (e.1 ≢ stand.white)
  first flips all = grind arith

  no_white : e.0 ≢ king_of White
  no_white same =
      let only = s.admissible.kings.white_there.only in
      (first false here).2 (only e.1 (subst (λ man. Stands p.men e.1 man) same (first false here).0) ∙ sym (only stand.white here.1))

  no_black : e.0 ≢ king_of Black
  no_black same =
      let only = s.admissible.kings.black_there.only in
      (first false here).1 (only e.1 (subst (λ man. Stands p.men e.1 man) same (first false here).0) ∙ sym (only stand.black here.3.1))

  -- of two positions with these kings that is of the lesser code which has the first man on the lesser square
  module _ (q : Setup) (other : ℕ) (turn : IsTurn t p q) (spells : Spells c other q) (kings : 64 * stand.white + stand.black ≡ 64 * after stand.white + after stand.black) where
    white_there : Stands q.men (after stand.white) (king_of White)
    white_there = stands_after facts p q t stand.white (king_of White) ok turn all.1

    black_there : Stands q.men (after stand.black) (king_of Black)
    black_there = stands_after facts p q t stand.black (king_of Black) ok turn all.3.1

    same : (stand.white ≡ after stand.white) × (stand.black ≡ after stand.black)
    same = same_kings stand.white stand.black (after stand.white) (after stand.black) kings all.3.0 (spells.admissible.on_board _ _ black_there)

    ordered : (a b : ℕ) (x y : Setup) (m n : ℕ) → Spells c a x → Spells c b y → Stands x.men stand.white (king_of White) → Stands x.men stand.black (king_of Black) → Stands y.men stand.white (king_of White) → Stands y.men stand.black (king_of Black)
        → Stands x.men m e.0 → Stands y.men n e.0 → m < n → a < b
    ordered a b x y m n = first_less c e.0 of_two.0 of_two.1 of_two.2 no_white no_black a b x y stand.white stand.black m n

    white_same : Stands q.men stand.white (king_of White)
    white_same = subst (λ n. Stands q.men n (king_of White)) (sym same.0) white_there

    black_same : Stands q.men stand.black (king_of Black)
    black_same = subst (λ n. Stands q.men n (king_of Black)) (sym same.1) black_there

    first_there : Stands q.men (after e.1) e.0
    first_there = stands_after facts p q t e.1 e.0 ok turn (first (eqb (t / 8) 1) all).0

    kept_by_first : e.1 < after e.1 → code < other
    kept_by_first lt = ordered code other p q e.1 (after e.1) s spells here.1 here.3.1 white_same black_same (first false here).0 first_there lt

    beaten_by_first : after e.1 < e.1 → other < code
    beaten_by_first lt = ordered other code q p (after e.1) e.1 spells s white_same black_same here.1 here.3.1 first_there (first false here).0 lt

-- a turn that takes the first man somewhere, as is known, exchanges no colours
pub plain_if : (Holds : ℕ → ℕ → Type 0) (o : Entry) (t : ℕ) → IfMoved o t Holds → eqb (t / 8) 1 ≡ false
plain_if Holds o t moved = grind (arith, ne_eqb)

-- what the image tells by the first man, where he is known
pub kept_by : Facts → (c code t : ℕ) (stand : Stand) (p : Setup) (o : Entry) → IfSome o (λ e. IsFirstOfTwo c e.0) → IfSome o (λ e. stand.first ≡ Some e) → IfMoved o t (λ before after. before < after) → IsAdmissible p
    → AllStand (eqb (t / 8) 1) p.men (list_of stand) → Spells c code p → 64 * stand.white + stand.black ≡ 64 * turned_square (t % 8) (eqb (t / 8) 1) stand.white + turned_square (t % 8) (eqb (t / 8) 1) stand.black → Keeps c p t code
kept_by facts c code t stand p None of_two next moved ok all s kings q other turn spells = absurd moved
kept_by facts c code t stand p (Some e) of_two next moved ok all s kings q other turn spells =
    let less = kept_by_first facts c code t stand p e of_two next moved.0 ok all s q other turn spells kings moved.1 in omega arith

pub beaten_by : Facts → (c code t : ℕ) (stand : Stand) (p : Setup) (o : Entry) → IfSome o (λ e. IsFirstOfTwo c e.0) → IfSome o (λ e. stand.first ≡ Some e) → IfMoved o t (λ before after. after < before) → IsAdmissible p
    → AllStand (eqb (t / 8) 1) p.men (list_of stand) → Spells c code p → 64 * stand.white + stand.black ≡ 64 * turned_square (t % 8) (eqb (t / 8) 1) stand.white + turned_square (t % 8) (eqb (t / 8) 1) stand.black → SpelledHome c t stand p → Beats c p t code
beaten_by facts c code t stand p None of_two next moved ok all s kings made = absurd moved
beaten_by facts c code t stand p (Some e) of_two next moved ok all s kings made = record {
  image = made.image;
  turned = made.turned;
  other = made.code;
  spells = made.spells;
  less = beaten_by_first facts c code t stand p e of_two next moved.0 ok all s made.image made.code made.turned made.spells kings moved.1;
}
