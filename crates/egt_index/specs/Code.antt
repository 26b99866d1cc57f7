-- Positions as numbers of mixed digits, from the highest to the lowest: the white king, the black king, each other man in
-- the order of the class's name, the side to move, and in KPKP whether there is a target.
use Rattle.std.specs.Prelude.{◌≡◌, ℕ, ◌+◌, ◌*◌, ◌/◌, ◌%◌, ◌⊎◌, Bool, IsTrue, if◌then◌else◌, List, [], ◌∷◌, ◌++◌}
use Rattle.std.specs.Prelude.{slice_index, Option, Some, None}
use Rattle.egt_board.specs.Prelude.{side_number, men_of, FitsBoard, Setup, IsAdmissible}
use Rattle.egt_class.specs.Prelude.{Material, material_of}
use Rattle.egt_board.specs.declared.man.Side.{Side}
use Rattle.egt_board.specs.declared.man.Side.TheVariants.{White, Black}
use Rattle.egt_board.specs.declared.man.Kind.{Kind}
use Rattle.egt_board.specs.declared.man.Kind.TheVariants.{Q, R, B, N, P, K}
use Rattle.egt_board.specs.declared.man.Man.{Man}
use Rattle.egt_index.specs.Digits.{number_of, AreDigits}
use Rattle.egt_class.specs.Size.{has_pawns, has_target, men_in_order, men_bases, bases}

-- a1 b1 c1 d1 b2 c2 d2 c3 d3 d4
abbrev pub triangle : List ℕ
triangle = 0 ∷ 1 ∷ 2 ∷ 3 ∷ 9 ∷ 10 ∷ 11 ∷ 18 ∷ 19 ∷ 27 ∷ []

-- the square of the white king's digit: with pawns one of the files a to d, rank by rank, without one of the triangle
abbrev pub king_square : Bool → ℕ → ℕ
king_square pawns digit = if pawns then 8 * (digit / 4) + digit % 4 else slice_index triangle digit

-- the square of a man's digit: a pawn's are counted from a2 on, the others' are the numbers of squares
abbrev pub square_by_digit : Bool → Side → Kind → ℕ → ℕ
square_by_digit pawns White K digit = king_square pawns digit
square_by_digit pawns Black K digit = digit
square_by_digit pawns side P digit = digit + 8
square_by_digit pawns side Q digit = digit
square_by_digit pawns side R digit = digit
square_by_digit pawns side B digit = digit
square_by_digit pawns side N digit = digit

abbrev pub square_of : Bool → Man → ℕ → ℕ
square_of pawns man digit = square_by_digit pawns man.side man.kind digit

-- the men on the squares of their digits
abbrev pub placed : Bool → List Man → List ℕ → List (Man × ℕ)
placed pawns [] digits = []
placed pawns (man ∷ men) [] = []
placed pawns (man ∷ men) (digit ∷ digits) = (man, square_of pawns man digit) ∷ placed pawns men digits

-- the men of the class with these digits
abbrev pub men_at : Material → List ℕ → List (Man × ℕ)
men_at m digits = placed (has_pawns m) (men_in_order m) digits

-- 1 where there is a target
abbrev pub target_digit : Option ℕ → ℕ
target_digit None = 0
target_digit (Some t) = 1

abbrev pub target_digits : Material → Option ℕ → List ℕ
target_digits m target = if has_target m then target_digit target ∷ [] else []

-- a class that has no digit for it has no target
abbrev pub HasTargetDigit : Material → Option ℕ → Type 0
HasTargetDigit m target = IsTrue (has_target m) ⊎ (target ≡ None)

-- the code spells the position of a class with these men, in the class's colours. Two equal men may be written in either
-- order, so there may be two such codes. The target's square follows from the pawn of the side that waits.
pub record SpellsBy (m : Material) (code : ℕ) (p : Setup) : Type 0 where
  pub admissible : IsAdmissible p
  pub digits : List ℕ
  pub are_digits : AreDigits (men_bases m) digits
  pub apart : FitsBoard (men_at m digits)
  pub men : p.men ≡ men_of (men_at m digits)
  pub target : HasTargetDigit m p.target
  pub number : code ≡ number_of (bases m) (digits ++ side_number p.side ∷ target_digits m p.target)

abbrev pub Spells : ℕ → ℕ → Setup → Type 0
Spells c code p = SpellsBy (material_of c) code p
