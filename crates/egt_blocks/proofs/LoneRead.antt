-- Scores of one man beside the kings, by the codes of turns.
use Rattle.std.proofs.Common.{◌≡◌, ℕ, ◌<◌, ◌&&◌, Bool, true, false, not, eqb, length, refl, sym, ap, ◌∙◌, inl, inr}
use Rattle.std.proofs.Common.{subst}
use Rattle.egt_blocks.specs.Prelude.{false≢true, Man, Side, all_below, passes_below, has_equal_sides, material_of}
use Rattle.egt_blocks.specs.Prelude.{materials, IsLoneMan, lone_stand, men_beside, IsSomeTurnedCode, Stand, IsCodeAfter}
use Rattle.egt_blocks.specs.Prelude.{IsHomeCode, IsRaisedHome, IsRead}
use Rattle.egt_blocks.proofs.BlockRaising.{raised_alike}
use Rattle.egt_board.proofs.Parts.{tails}

-- one man beside the kings is of one side
differs : ℕ → Bool
differs c = not (eqb (length (men_beside (material_of c))) 1 && has_equal_sides c)

all_differ : all_below differs 36 ≡ true
unfolding all_below differs has_equal_sides material_of materials
all_differ = refl

pub not_equal_sides : (c : ℕ) (man : Man) → c < 36 → IsLoneMan c man → has_equal_sides c ≡ true → ⊥
unfolding differs
not_equal_sides c man c_in is equal =
    let few : length (men_beside (material_of c)) ≡ 1 = ap length (sym (tails (tails is.are))) in
    false≢true (sym (ap (λ n. not (eqb n 1 && has_equal_sides c)) few ∙ ap not equal) ∙ passes_below differs 36 c all_differ c_in)

module _ (c : ℕ) (worth : ℕ → ℕ) (man : Man) (white black : ℕ) (flips : Bool) (side : Side) (c_in : c < 36) (is : IsLoneMan c man) (s : ℕ) where
  -- only by turns that exchange colours so
  pub some_home : (code : ℕ) → IsSomeTurnedCode c code flips (lone_stand white black man s) side → IsHomeCode false c code flips (lone_stand white black man s) side
  some_home code some = elim some.seen [
    | inl own ↦ elim own.1 [
      | inl same ↦ (some.turn, record { below = some.is.below; flips_is = own.0; keeps = some.is.keeps }, subst (λ (s : Stand). IsCodeAfter false c some.turn code s side) same some.is.tells)
      | inr other ↦ absurd (let none = other.1 in cc)
    ]
    | inr across ↦ absurd (not_equal_sides c man c_in is across.0)
  ]

  home_some : (code : ℕ) → IsHomeCode false c code flips (lone_stand white black man s) side → IsSomeTurnedCode c code flips (lone_stand white black man s) side
  home_some code h = record { turn = h.0; after = lone_stand white black man s; seen = inl (h.1.flips_is, inl refl); is = record { below = h.1.below; keeps = h.1.keeps; tells = h.2 } }

  pub lone_read : (v w : ℕ) → w ≡ 0 → IsRaisedHome false c worth flips (lone_stand white black man s) side w v → IsRead c worth flips (lone_stand white black man s) side v
  lone_read v w none raised = raised_alike 0 v (λ code. IsHomeCode false c code flips (lone_stand white black man s) side) (λ code. IsSomeTurnedCode c code flips (lone_stand white black man s) side) worth
      (subst (λ low. IsRaisedHome false c worth flips (lone_stand white black man s) side low v) none raised) some_home home_some
