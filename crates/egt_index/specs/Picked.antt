-- The least code of a position: each man in turn on the least square that is left to it.
use Rattle.std.specs.Prelude.{◌≡◌, ℕ, ◌<◌, ◌≤◌, Bool, List, [], ◌∷◌, map, Option, Some, None, count_by}
use Rattle.egt_board.specs.Prelude.{king_of, is_man, count_of, PawnsFit, Placement, Stands, Setup}
use Rattle.egt_board.specs.declared.man.Side.TheVariants.{White}
use Rattle.egt_board.specs.declared.man.Man.{Man}
use Rattle.egt_index.specs.Digits.{number_from, AreDigits}
use Rattle.egt_class.specs.Size.{base_of}
use Rattle.egt_index.specs.Code.{Spells, square_of}
use Rattle.std.specs.FinMap as placement

-- how often the man stands in the list
abbrev pub tally : Man → List Man → ℕ
tally man men = count_by (is_man man) men

-- the men on the board are those of the list
abbrev pub AreCounted : Placement → List Man → Type 0
AreCounted men list = (man : Man) → count_of men man ≡ tally man list

-- the least square on which the man stands
pub record Least (men : Placement) (man : Man) (s : ℕ) : Type 0 where
  pub stands : Stands men s man
  pub least : (t : ℕ) → t < s → ¬ Stands men t man

-- the digit of a man's square
pub record DigitOf (pawns : Bool) (man : Man) (s : ℕ) : Type 0 where
  pub digit : ℕ
  pub below : digit < base_of pawns man
  pub is : square_of pawns man digit ≡ s

-- no man but a white king lacks a digit
pub record Fits (men : Placement) : Type 0 where
  pub on_board : (s : ℕ) (man : Man) → Stands men s man → s < 64
  pub pawns : PawnsFit men
  pub no_king : (s : ℕ) → ¬ Stands men s (king_of White)

-- each digit is of the least square on which the man still stands
abbrev pub Picks : Bool → Placement → List Man → List ℕ → Type 0
Picks pawns men [] digits = Unit {0}
Picks pawns men (man ∷ list) [] = ⊥
Picks pawns men (man ∷ list) (digit ∷ digits) =
    (square_of pawns man digit < 64) × Least men man (square_of pawns man digit) × Picks pawns (placement.remove men (square_of pawns man digit)) list digits

-- the digits of these men, picked one by one, go on behind those that made `high`
pub record Goes (pawns : Bool) (high : ℕ) (men : Placement) (list : List Man) (number : ℕ) : Type 0 where
  pub digits : List ℕ
  pub are : AreDigits (map (base_of pawns) list) digits
  pub picks : Picks pawns men list digits
  pub is : number ≡ number_from high (map (base_of pawns) list) digits

-- the code spells the position, and none that is less does
pub record IsLeastCode (c : ℕ) (p : Setup) (code : ℕ) : Type 0 where
  pub spells : Spells c code p
  pub least : (other : ℕ) → Spells c other p → code ≤ other

-- the least code of the position, or that it has none
abbrev pub CodeOf : ℕ → Setup → Option ℕ → Type 0
CodeOf c p None = (code : ℕ) → ¬ Spells c code p
CodeOf c p (Some code) = IsLeastCode c p code
