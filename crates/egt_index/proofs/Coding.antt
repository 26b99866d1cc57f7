-- A code spells one position, and is below the class's size.
use Rattle.std.proofs.Common.{◌≡◌, ℕ, ◌<◌, Bool, cond, List, [], ◌∷◌, ◌++◌, Option, arith, refl, sym, ap, ◌∙◌, subst}
use Rattle.egt_index.specs.Prelude.{Side, Setup, Material, product, size_of, bases, men_bases, Spells, SpellsBy, men_at}
use Rattle.egt_index.specs.Prelude.{side_number, men_of, material_of, AreDigits, has_target, target_digit, target_digits}
use Rattle.egt_index.proofs.MixedDigits.{number_of-below, number_from-same}
use Rattle.egt_board.proofs.Parts.{heads, tails}

pub AreDigits-append : (bases digits others more : List ℕ) → AreDigits bases digits → AreDigits others more → AreDigits (bases ++ others) (digits ++ more)
AreDigits-append [] [] others more here behind = behind
AreDigits-append [] (d ∷ ds) others more here behind = absurd here
AreDigits-append (b ∷ bs) [] others more here behind = absurd here
AreDigits-append (b ∷ bs) (d ∷ ds) others more here behind = (here.0, AreDigits-append bs ds others more here.1 behind)

-- what stands behind digits of the same bases
pub parts_same : (bases digits others x y : List ℕ) → AreDigits bases digits → AreDigits bases others → digits ++ x ≡ others ++ y → (digits ≡ others) × (x ≡ y)
parts_same [] [] [] x y here there same = (refl, same)
parts_same [] (d ∷ ds) others x y here there same = absurd here
parts_same [] [] (e ∷ es) x y here there same = absurd there
parts_same (b ∷ bs) [] others x y here there same = absurd here
parts_same (b ∷ bs) (d ∷ ds) [] x y here there same = absurd there
parts_same (b ∷ bs) (d ∷ ds) (e ∷ es) x y here there same =
    let rest = parts_same bs ds es x y here.1 there.1 (tails same) in
    (conses (heads same) rest.0, rest.1)
  where
    conses : d ≡ e → ds ≡ es → d ∷ ds ≡ e ∷ es
    conses h k = cc

side_fits : (side : Side) → side_number side < 2
side_fits side = grind arith

target_fits : (target : Option ℕ) → target_digit target < 2
target_fits target = grind arith

pub last_digits : (b : Bool) (side : Side) (target : Option ℕ) → AreDigits (2 ∷ cond b (2 ∷ []) []) (side_number side ∷ cond b (target_digit target ∷ []) [])
last_digits b side target = grind (arith, side_fits, target_fits)

pub all_digits : (m : Material) (digits : List ℕ) (p : Setup) → AreDigits (men_bases m) digits → AreDigits (bases m) (digits ++ side_number p.side ∷ target_digits m p.target)
all_digits m digits p are = AreDigits-append (men_bases m) digits _ _ are (last_digits (has_target m) p.side p.target)

pub spells_below : (m : Material) (code : ℕ) (p : Setup) → SpellsBy m code p → code < product (bases m)
spells_below m code p s = subst (λ n. n < product (bases m)) (sym s.number) (number_of-below (bases m) _ (all_digits m s.digits p s.are_digits))

pub code_below : (c code : ℕ) (p : Setup) → Spells c code p → code < size_of c
unfolding size_of
code_below c code p s = spells_below (material_of c) code p s

pub side_told : (a b : Side) → side_number a ≡ side_number b → a ≡ b
side_told a b e = grind arith

-- what two positions of one code share
pub record SameSpelling (m : Material) (p q : Setup) (digits others : List ℕ) : Type 0 where
  pub digits_same : digits ≡ others
  pub men : p.men ≡ q.men
  pub side : p.side ≡ q.side
  pub target : target_digits m p.target ≡ target_digits m q.target

pub spells_same : (m : Material) (code : ℕ) (p q : Setup) (s : SpellsBy m code p) (t : SpellsBy m code q) → SameSpelling m p q s.digits t.digits
spells_same m code p q s t =
    let all = number_from-same (bases m) _ _ 0 0 (all_digits m s.digits p s.are_digits) (all_digits m t.digits q t.are_digits) (sym s.number ∙ t.number) in
    let parts = parts_same (men_bases m) s.digits t.digits _ _ s.are_digits t.are_digits all.1 in
    record {
      digits_same = parts.0;
      men = s.men ∙ ap (λ ds. men_of (men_at m ds)) parts.0 ∙ sym t.men;
      side = side_told p.side q.side (head_same _ _ _ _ parts.1);
      target = tail_same _ _ _ _ parts.1;
    }
  where
    head_same : (a b : ℕ) (x y : List ℕ) → a ∷ x ≡ b ∷ y → a ≡ b
    head_same a b x y h = cc

    tail_same : (a b : ℕ) (x y : List ℕ) → a ∷ x ≡ b ∷ y → x ≡ y
    tail_same a b x y h = cc
