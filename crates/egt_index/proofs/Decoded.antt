-- The position that the digits of a code spell.
use Rattle.std.proofs.Common.{◌≡◌, ℕ, ◌+◌, ◌-◌, ◌<◌, Bool, true, false, cond, List, [], ◌∷◌, ◌++◌, Option, Some, None}
use Rattle.std.proofs.Common.{arith, refl, sym, ap, ◌∙◌, inl, inr, subst}
use Rattle.egt_index.specs.Prelude.{false≢true, Side, White, Black, Man, side_number, other_side, pawn_of, Placement}
use Rattle.egt_index.specs.Prelude.{Stands, men_of, setup_of, FitsBoard, Setup, IsAdmissible, IsTarget, FitsTarget}
use Rattle.egt_index.specs.Prelude.{Material, material_of, number_from, number_of, AreDigits, bases, men_bases}
use Rattle.egt_index.specs.Prelude.{has_target, Spells, SpellsBy, HasTargetDigit, men_at, target_digit, target_digits}
use Rattle.egt_index.specs.Prelude.{SpellsMen, SpellsNoMen, Ends, HasPawns, IsBehind, IsTold, IsListed}
use Rattle.egt_index.proofs.MixedDigits.{number_from-same}
use Rattle.egt_index.proofs.Coding.{last_digits, side_told}
use Rattle.egt_index.proofs.Coded.{number_append}
use Rattle.egt_index.proofs.Listing.{listed}
use Rattle.egt_index.proofs.OnePosition.{one_pawn_each, one_square, same_setup}
use Rattle.egt_board.proofs.Parts.{heads, tails}

pub flag : Bool → ℕ
flag targeted = cond targeted 1 0

-- where a target may have been passed, there is a pawn each
pub has_pawns_list : (c : ℕ) (number : ℕ) (list : List (Man × ℕ)) → has_target (material_of c) ≡ true → SpellsMen (material_of c) number list → HasPawns list
has_pawns_list c number list has spells = grind (arith, one_pawn_each)

told_digit : (targeted : Bool) (side : Side) (list : List (Man × ℕ)) (target : Option ℕ) → IsTold targeted side list target → target_digit target ≡ flag targeted
unfolding flag
told_digit targeted side list target told = grind (arith, target_digit)

told_has : (m : Material) (targeted : Bool) (side : Side) (list : List (Man × ℕ)) (target : Option ℕ) → (has_target m ≡ false → targeted ≡ false) → IsTold targeted side list target → HasTargetDigit m target
told_has m targeted side list target never told = grind arith

-- the number that digits of men and the ends make
pub code_of_parts : (m : Material) (digits : List ℕ) (side : Side) (d : ℕ) → AreDigits (men_bases m) digits
    → number_of (bases m) (digits ++ side_number side ∷ cond (has_target m) (d ∷ []) []) ≡ number_from (number_of (men_bases m) digits) (2 ∷ cond (has_target m) (2 ∷ []) []) (side_number side ∷ cond (has_target m) (d ∷ []) [])
code_of_parts m digits side d are = number_append (men_bases m) digits (2 ∷ cond (has_target m) (2 ∷ []) []) (side_number side ∷ cond (has_target m) (d ∷ []) []) 0 are

pub decoded_spells : (m : Material) (code high : ℕ) (side : Side) (targeted : Bool) (list : List (Man × ℕ)) (target : Option ℕ) → Ends m code high side targeted → SpellsMen m high list
    → IsTold targeted side list target → FitsBoard list → IsAdmissible (setup_of list side target) → SpellsBy m code (setup_of list side target)
unfolding flag
decoded_spells m code high side targeted list target ends spells told fits ok = record {
  admissible = ok;
  digits = spells.digits;
  are_digits = spells.are;
  apart = subst FitsBoard spells.list_is fits;
  men = ap men_of spells.list_is;
  target = told_has m targeted side list target ends.never told;
  number =
      ends.number_is
      ∙ ap (λ d. number_from high (2 ∷ cond (has_target m) (2 ∷ []) []) (side_number side ∷ cond (has_target m) (d ∷ []) [])) (sym (told_digit targeted side list target told))
      ∙ ap (λ h. number_from h (2 ∷ cond (has_target m) (2 ∷ []) []) (side_number side ∷ target_digits m target)) spells.number_is
      ∙ sym (code_of_parts m spells.digits side (target_digit target) spells.are);
}

-- what any position that the code spells has of these
pub record Parts (m : Material) (p : Setup) (digits : List ℕ) (high : ℕ) (side : Side) (targeted : Bool) : Type 0 where
  pub men_number : number_of (men_bases m) digits ≡ high
  pub same_side : p.side ≡ side
  pub same_target : target_digits m p.target ≡ cond (has_target m) (flag targeted ∷ []) []

flag_fits : (targeted : Bool) → flag targeted < 2
unfolding flag
flag_fits targeted = grind arith

ends_fit : (b : Bool) (side : Side) (targeted : Bool) → AreDigits (2 ∷ cond b (2 ∷ []) []) (side_number side ∷ cond b (flag targeted ∷ []) [])
ends_fit b side targeted = grind (arith, last_digits, flag_fits)

pub parts_told : (m : Material) (code high : ℕ) (side : Side) (targeted : Bool) (p : Setup) → Ends m code high side targeted → (s : SpellsBy m code p) → Parts m p s.digits high side targeted
unfolding flag
parts_told m code high side targeted p ends s =
    let both = number_from-same (2 ∷ cond (has_target m) (2 ∷ []) []) (side_number p.side ∷ target_digits m p.target) (side_number side ∷ cond (has_target m) (flag targeted ∷ []) []) (number_of (men_bases m) s.digits) high
    (last_digits (has_target m) p.side p.target) (ends_fit (has_target m) side targeted) (sym (code_of_parts m s.digits p.side (target_digit p.target) s.are_digits) ∙ sym s.number ∙ ends.number_is) in
    record { men_number = both.0; same_side = side_told p.side side (heads both.1); same_target = tails both.1 }

pub no_men : (m : Material) (code high : ℕ) (side : Side) (targeted : Bool) (p : Setup) → Ends m code high side targeted → SpellsNoMen m high → SpellsBy m code p → ⊥
no_men m code high side targeted p ends none s = none s.digits s.are_digits (sym (parts_told m code high side targeted p ends s).men_number)

-- the men on their squares are those that any spelling of the code has
pub list_spelled : (c code high : ℕ) (side : Side) (targeted : Bool) (list : List (Man × ℕ)) (p : Setup) → Ends (material_of c) code high side targeted → SpellsMen (material_of c) high list → (s : Spells c code p) → list ≡ men_at (material_of c) s.digits
list_spelled c code high side targeted list p ends spells s =
    spells.list_is
    ∙ ap (men_at (material_of c)) (number_from-same (men_bases (material_of c)) spells.digits s.digits 0 0 spells.are s.are_digits (sym spells.number_is ∙ sym (parts_told (material_of c) code high side targeted p ends s).men_number)).1

-- the target that the digits tell of is the position's
passed_square : (mover : Side) (men : Placement) (list : List (Man × ℕ)) (t u : ℕ) → men ≡ men_of list → IsTarget men mover u → IsBehind mover list t
    → ((a b : ℕ) → IsListed list (pawn_of (other_side mover)) a → IsListed list (pawn_of (other_side mover)) b → a ≡ b) → t ≡ u
passed_square White men list t u is target behind one =
    let same = one behind.0 (u - 8) behind.1 (listed list (pawn_of Black) (u - 8) (subst (λ m. Stands m (u - 8) (pawn_of Black)) is target.advanced)) in
    let rank = target.rank in let at = behind.2 in omega arith
passed_square Black men list t u is target behind one =
    let same = one behind.0 (u + 8) behind.1 (listed list (pawn_of White) (u + 8) (subst (λ m. Stands m (u + 8) (pawn_of White)) is target.advanced)) in
    let rank = target.rank in let at = behind.2 in omega arith

-- what the code spells is this setup
pub spelled_setup : (c : ℕ) (code high : ℕ) (side : Side) (targeted : Bool) (list : List (Man × ℕ)) (target : Option ℕ) (p : Setup) → Ends (material_of c) code high side targeted → SpellsMen (material_of c) high list
    → IsTold targeted side list target → Spells c code p → FitsBoard list × (p ≡ setup_of list side target)
unfolding flag
spelled_setup c code high side targeted list target p ends spells told s = (subst FitsBoard (sym list_is) s.apart, p_is)
  where
    m : Material
    m = material_of c

    parts : Parts m p s.digits high side targeted
    parts = parts_told m code high side targeted p ends s

    list_is : list ≡ men_at m s.digits
    list_is = list_spelled c code high side targeted list p ends spells s

    men_is : p.men ≡ men_of list
    men_is = s.men ∙ ap men_of (sym list_is)

    one : has_target m ≡ true → (side : Side) (a b : ℕ) → IsListed list (pawn_of side) a → IsListed list (pawn_of side) b → a ≡ b
    one has side a b here there = grind (arith, one_pawn_each, one_square)

    digits_has : (b : Bool) → has_target m ≡ b → b ≡ true → target_digit p.target ≡ flag targeted
    digits_has true is e = heads (subst (λ x. cond x (target_digit p.target ∷ []) [] ≡ cond x (flag targeted ∷ []) []) is parts.same_target)
    digits_has false is e = absurd (false≢true e)

    with_target : has_target m ≡ true → (targeted : Bool) → target_digit p.target ≡ flag targeted → (t o : Option ℕ) → p.target ≡ o → IsTold targeted side list t → o ≡ t
    with_target has false same t None is told = sym told
    with_target has false same t (Some u) is told = absurd (let digit = ap target_digit is in omega arith)
    with_target has true same t None is told = absurd (let digit = ap target_digit is in omega arith)
    with_target has true same None (Some u) is told = absurd told
    with_target has true same (Some t) (Some u) is told =
        let fits = subst (λ o. FitsTarget p.men side o) is (subst (λ x. FitsTarget p.men x p.target) parts.same_side s.admissible.target) in
        ap Some (sym (passed_square side p.men list t u men_is fits told (one has (other_side side))))

    none_told : (targeted : Bool) → targeted ≡ false → IsTold targeted side list target → target ≡ None
    none_told targeted e told = grind arith

    target_is : (b : Bool) → has_target m ≡ b → HasTargetDigit m p.target → p.target ≡ target
    target_is true is has = with_target is targeted (digits_has true is refl) target p.target refl told
    target_is false is (inl has) = absurd (false≢true (sym is ∙ has))
    target_is false is (inr none) = none ∙ sym (none_told targeted (ends.never is) told)

    p_is : p ≡ setup_of list side target
    p_is = same_setup p (setup_of list side target) men_is parts.same_side (target_is (has_target m) refl s.target)
