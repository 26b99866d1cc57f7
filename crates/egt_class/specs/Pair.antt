-- The two men beside the kings, and the table of classes by them.
use Rattle.std.specs.Prelude.{◌≡◌, ◌≢◌, ℕ, ◌+◌, Bool, false, Option, Some, None, IfSome, slice_index, slice_index_or}
use Rattle.egt_board.specs.Prelude.{king_of, Setup, stands_here, count_of}
use Rattle.egt_board.specs.declared.man.Side.{Side}
use Rattle.egt_board.specs.declared.man.Side.TheVariants.{White, Black}
use Rattle.egt_board.specs.declared.man.Kind.{Kind}
use Rattle.egt_board.specs.declared.man.Kind.TheVariants.{Q, R, B, N, P, K}
use Rattle.egt_board.specs.declared.man.Man.{Man}
use Rattle.egt_class.specs.declared.membership.TheConstants.{NUMBERS, FLIPS}

abbrev pub first_slot : Side → ℕ
first_slot White = 1
first_slot Black = 6

abbrev pub kind_slot : ℕ → Kind → ℕ
kind_slot first Q = first
kind_slot first R = first + 1
kind_slot first B = first + 2
kind_slot first N = first + 3
kind_slot first P = first + 4
kind_slot first K = 0

-- the row of a man beside the kings, or of none
abbrev pub slot_of : Option Man → ℕ
slot_of None = 0
slot_of (Some man) = kind_slot (first_slot man.side) man.kind

-- the class and the flip of a pair of rows
unfoldable pub class_at : ℕ → ℕ
class_at k = slice_index NUMBERS k

unfoldable pub flip_at : ℕ → Bool
flip_at k = slice_index_or FLIPS k false

-- beside one king a side p has these men
pub record AreNonKings (p : Setup) (first second : Option Man) : Type 0 where
  pub kings : (side : Side) → count_of p.men (king_of side) ≡ 1
  pub others : (man : Man) → man.kind ≢ K → count_of p.men man ≡ stands_here man first + stands_here man second
  pub first_other : IfSome first (λ man. man.kind ≢ K)
  pub second_other : IfSome second (λ man. man.kind ≢ K)
