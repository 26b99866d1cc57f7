-- A code tells one side to move and one square for each man.
use Rattle.std.proofs.Common.{◌≡◌, ℕ, ◌<◌, Bool, cond, List, [], ◌∷◌, refl, sym, ap, ◌∙◌, arith}
use Rattle.egt_sweep.specs.FillPrelude.{king_of, side_number, Man, Side, White, Black, material_of, AreDigits}
use Rattle.egt_sweep.specs.FillPrelude.{has_target, men_bases, men_at, list_of, TellsMen, Stand, number_from-same}
use Rattle.egt_sweep.specs.FillPrelude.{side_few, heads, tails}

flag_few : (targeted : Bool) → cond targeted 1 0 < 2
flag_few targeted = grind arith

-- the lowest digits
ends_fit : (target : Bool) (side : Side) (targeted : Bool) → AreDigits (2 ∷ cond target (2 ∷ []) []) (side_number side ∷ cond target (cond targeted 1 0 ∷ []) [])
ends_fit h0 side targeted = grind (arith, side_few, flag_few)

one_flag : (p q : Bool) → ◌≡◌ {A = ℕ} (cond p 1 0) (cond q 1 0) → p ≡ q
one_flag p q e = grind arith

one_side : (side other : Side) → side_number side ≡ side_number other → side ≡ other
one_side side other e = grind arith

-- of two lists of men the squares of the kings
first_squares : (white black white' black' : ℕ) (rest rest' : List (Man × ℕ)) → ◌≡◌ {A = List (Man × ℕ)} ((king_of White, white) ∷ (king_of Black, black) ∷ rest) ((king_of White, white') ∷ (king_of Black, black') ∷ rest') → (white ≡ white') × (black ≡ black')
first_squares white black white' black' rest rest' e = grind arith

module _ (c code : ℕ) (p q : Bool) (s t : Stand) (side other : Side) (here : TellsMen p c code s side) (there : TellsMen q c code t other) where
  both : (here.number ≡ there.number) × (side_number side ∷ cond (has_target (material_of c)) (cond p 1 0 ∷ []) [] ≡ side_number other ∷ cond (has_target (material_of c)) (cond q 1 0 ∷ []) [])
  both = number_from-same (2 ∷ cond (has_target (material_of c)) (2 ∷ []) []) (side_number side ∷ cond (has_target (material_of c)) (cond p 1 0 ∷ []) []) (side_number other ∷ cond (has_target (material_of c)) (cond q 1 0 ∷ []) [])
      here.number there.number (ends_fit (has_target (material_of c)) side p) (ends_fit (has_target (material_of c)) other q) (sym here.ends.number_is ∙ there.ends.number_is)

  pub side_told : side ≡ other
  side_told = one_side side other (heads both.1)

  same_list : list_of s ≡ list_of t
  same_list =
      here.men.list_is
      ∙ ap (men_at (material_of c)) (number_from-same (men_bases (material_of c)) here.men.digits there.men.digits 0 0 here.men.are there.men.are (sym here.men.number_is ∙ both.0 ∙ there.men.number_is)).1
      ∙ sym there.men.list_is

  pub kings_told : (s.white ≡ t.white) × (s.black ≡ t.black)
  kings_told = first_squares s.white s.black t.white t.black _ _ same_list

  same_flag : (b : Bool) → has_target (material_of c) ≡ b → p ≡ q
  same_flag h0 none = grind (arith, one_flag, heads, tails, side_number, both)

  pub targeted_told : p ≡ q
  targeted_told = same_flag (has_target (material_of c)) refl
