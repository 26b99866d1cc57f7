-- A code spells one position.
use Rattle.std.proofs.Common.{◌≡◌, ℕ, ◌||◌, ◌==◌, not, Bool, true, List, [], ◌∷◌, Option, arith, refl, sym}
use Rattle.std.proofs.Common.{ap, ◌∙◌, inl, inr, subst}
use Rattle.egt_index.specs.Prelude.{false≢true, cases_lt, eqb-true, Side, P, Man, other_side, king_of, pawn_of}
use Rattle.egt_index.specs.Prelude.{Placement, Stands, men_of, Setup, IsTarget, FitsTarget, all_below, passes_below}
use Rattle.egt_index.specs.Prelude.{Material, material_of, materials, beside, AreDigits, men_bases, has_target, Spells}
use Rattle.egt_index.specs.Prelude.{HasTargetDigit, men_at, target_digit, target_digits, IsListed}
use Rattle.egt_index.proofs.Listing.{listed}
use Rattle.egt_index.proofs.Coding.{SameSpelling, spells_same}
use Rattle.egt_index.proofs.Tested.{implied}
use Rattle.egt_index.proofs.Past.{past}

abbrev pub a_pawn_each : Material
a_pawn_each = beside (P ∷ []) (P ∷ [])

abbrev is_only : ℕ → Bool
is_only c = not (has_target (material_of c)) || (c == 35)

all_only : all_below is_only 36 ≡ true
unfolding all_below material_of materials
all_only = refl

unique : a_pawn_each ≡ material_of 35
unfolding material_of materials
unique = refl

-- a class with targets has a pawn on each side and nothing else
pub one_pawn_each : (c : ℕ) → has_target (material_of c) ≡ true → material_of c ≡ a_pawn_each
one_pawn_each c has = elim (cases_lt c 36) [
  | inl c_in ↦ ap material_of (eqb-true c 35 (implied (has_target (material_of c)) (c == 35) has (passes_below is_only 36 c all_only c_in))) ∙ sym unique
  | inr c_past ↦ absurd (false≢true (sym (ap has_target (past c c_past)) ∙ has))
]

no_king : (side other : Side) → king_of side ≡ pawn_of other → ⊥
no_king side other h = let kinds = ap (λ (man : Man). man.kind) h in cc

not_other : (side : Side) → pawn_of (other_side side) ≡ pawn_of side → ⊥
not_other side h = grind arith

-- there each side's pawn stands on one square
pub one_square : (digits : List ℕ) (side : Side) (s t : ℕ) → AreDigits (men_bases a_pawn_each) digits
    → IsListed (men_at a_pawn_each digits) (pawn_of side) s → IsListed (men_at a_pawn_each digits) (pawn_of side) t → s ≡ t
one_square digits side s t are here there = grind (arith, no_king, not_other)

-- the pawn that has just advanced tells the target
target_told : (mover : Side) (men : Placement) (t u : ℕ) → IsTarget men mover t → IsTarget men mover u
    → ((a b : ℕ) → Stands men a (pawn_of (other_side mover)) → Stands men b (pawn_of (other_side mover)) → a ≡ b) → t ≡ u
target_told mover men t u here there one = grind arith

same_target : (m : Material) (digits : List ℕ) (side : Side) (men : Placement) (t u : Option ℕ) → ((b : Bool) → b ≡ has_target m → b ≡ true → (a b : ℕ) → Stands men a (pawn_of (other_side side)) → Stands men b (pawn_of (other_side side)) → a ≡ b)
    → FitsTarget men side t → FitsTarget men side u → HasTargetDigit m t → HasTargetDigit m u → target_digits m t ≡ target_digits m u → t ≡ u
same_target m digits side men t u one here there has has' same = grind (arith, target_digit, target_told)

setup : Placement → Side → Option ℕ → Setup
setup men side target = record { men = men; side = side; target = target }

-- setups of the same parts are the same
pub same_setup : (p q : Setup) → p.men ≡ q.men → p.side ≡ q.side → p.target ≡ q.target → p ≡ q
unfolding setup
same_setup p q men side target = ap (λ x. setup x p.side p.target) men ∙ ap (λ x. setup q.men x p.target) side ∙ ap (λ x. setup q.men q.side x) target

pub spells_once : (c code : ℕ) (p q : Setup) → Spells c code p → Spells c code q → p ≡ q
spells_once c code p q s t =
    let both = spells_same (material_of c) code p q s t in
    let there : FitsTarget p.men p.side q.target = subst (λ side. FitsTarget p.men side q.target) (sym both.side) (subst (λ men. FitsTarget men q.side q.target) (sym both.men) t.admissible.target) in
    let target = same_target (material_of c) s.digits p.side p.men p.target q.target (pawns both) s.admissible.target there s.target t.target both.target in
    same_setup p q both.men both.side target
  where
    pawns : SameSpelling (material_of c) p q s.digits t.digits → (b : Bool) → b ≡ has_target (material_of c) → b ≡ true
        → (x y : ℕ) → Stands p.men x (pawn_of (other_side p.side)) → Stands p.men y (pawn_of (other_side p.side)) → x ≡ y
    pawns both b is has x y here there = of_two (one_pawn_each c (sym is ∙ has)) (listed _ _ x (in_list x here)) (listed _ _ y (in_list y there))
      where
        in_list : (z : ℕ) → Stands p.men z (pawn_of (other_side p.side)) → Stands (men_of (men_at (material_of c) s.digits)) z (pawn_of (other_side p.side))
        in_list z stands = subst (λ men. Stands men z (pawn_of (other_side p.side))) s.men stands

        of_two : material_of c ≡ a_pawn_each → IsListed (men_at (material_of c) s.digits) (pawn_of (other_side p.side)) x → IsListed (men_at (material_of c) s.digits) (pawn_of (other_side p.side)) y → x ≡ y
        of_two same = grind (arith, one_square)
