-- The digits of a code, taken off from the lowest.
use Rattle.std.specs.Prelude.{◌≡◌, ◌≢◌, ℕ, ◌+◌, ◌*◌, ◌<◌, ◌≤◌, ◌⊎◌, Bool, true, false, if◌then◌else◌, List, [], ◌∷◌}
use Rattle.std.specs.Prelude.{map, Option, Some, None}
use Rattle.egt_board.specs.Prelude.{king_of, side_number, other_side, pawn_of, ahead}
use Rattle.egt_class.specs.Prelude.{Material}
use Rattle.egt_board.specs.declared.man.Side.{Side}
use Rattle.egt_board.specs.declared.man.Man.{Man}
use Rattle.egt_board.specs.declared.man.Side.TheVariants.{White, Black}
use Rattle.egt_index.specs.Digits.{number_from, number_of, AreDigits}
use Rattle.egt_class.specs.Size.{base_of, men_bases, has_target}
use Rattle.egt_index.specs.Code.{square_of, placed, men_at}

-- the lowest digit is that of the man on the square, and `high` is what stands before it
pub record Splits (number : ℕ) (man : Man) (high square : ℕ) : Type 0 where
  pub digit : ℕ
  pub below : (pawns : Bool) → digit < base_of pawns man
  pub is : (pawns : Bool) → square_of pawns man digit ≡ square
  pub number_is : (pawns : Bool) → number ≡ high * base_of pawns man + digit

-- the lowest digits are those of the men on their squares, and `high` is what stands before them
pub record Tells (pawns : Bool) (number : ℕ) (men : List Man) (high : ℕ) (list : List (Man × ℕ)) : Type 0 where
  pub digits : List ℕ
  pub are : AreDigits (map (base_of pawns) men) digits
  pub list_is : list ≡ placed pawns men digits
  pub number_is : number ≡ number_from high (map (base_of pawns) men) digits

-- the number spells these men of a class on their squares
pub record SpellsMen (m : Material) (number : ℕ) (list : List (Man × ℕ)) : Type 0 where
  pub digits : List ℕ
  pub are : AreDigits (men_bases m) digits
  pub list_is : list ≡ men_at m digits
  pub number_is : number ≡ number_of (men_bases m) digits

abbrev pub SpellsNoMen : Material → ℕ → Type 0
SpellsNoMen m number = (digits : List ℕ) → AreDigits (men_bases m) digits → number ≢ number_of (men_bases m) digits

-- the lowest digits of a code are those of the side to move and, where the class has it, of the target
pub record Ends (m : Material) (code high : ℕ) (side : Side) (targeted : Bool) : Type 0 where
  pub number_is : code ≡ number_from high (2 ∷ (if has_target m then 2 ∷ [] else [])) (side_number side ∷ (if has_target m then (if targeted then 1 else 0) ∷ [] else []))
  pub never : has_target m ≡ false → targeted ≡ false

-- the list has this man on this square
abbrev pub IsListed : List (Man × ℕ) → Man → ℕ → Type 0
IsListed [] man s = ⊥
IsListed (e ∷ list) man s = ((e.0 ≡ man) × (e.1 ≡ s)) ⊎ IsListed list man s

-- behind the kings a pawn of White and a pawn of Black
pub record HasPawns (list : List (Man × ℕ)) : Type 0 where
  pub white_king : ℕ
  pub black_king : ℕ
  pub white : ℕ
  pub black : ℕ
  pub white_in : (8 ≤ white) × (white < 56)
  pub black_in : (8 ≤ black) × (black < 56)
  pub list_is : list ≡ (king_of White, white_king) ∷ (king_of Black, black_king) ∷ (pawn_of White, white) ∷ (pawn_of Black, black) ∷ []

-- the square behind the pawn of the side that waits
abbrev pub IsBehind : Side → List (Man × ℕ) → ℕ → Type 0
IsBehind side list t = (s : ℕ) × (IsListed list (pawn_of (other_side side)) s) × (t ≡ ahead side s)

-- the target that the digits tell of
abbrev pub IsTold : Bool → Side → List (Man × ℕ) → Option ℕ → Type 0
IsTold false side list target = target ≡ None
IsTold true side list None = ⊥
IsTold true side list (Some t) = IsBehind side list t
