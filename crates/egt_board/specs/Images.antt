-- The images of a position: all that comes from it by the symmetries that its men allow and the flip of colours.
use Rattle.std.specs.Prelude.{◌≡◌, ℕ, zero, suc, ◌+◌, ◌*◌, ◌<◌, ◌⊎◌, ◌==◌, if◌then◌else◌, Option, Some, None}
use Rattle.std.specs.FinMap as map
use Rattle.egt_board.specs.declared.man.Side.{Side}
use Rattle.egt_board.specs.declared.man.Side.TheVariants.{White, Black}
use Rattle.egt_board.specs.declared.man.Kind.{Kind}
use Rattle.egt_board.specs.declared.man.Kind.TheVariants.{Q, R, B, N, P, K}
use Rattle.egt_board.specs.declared.man.Man.{Man}
use Rattle.egt_board.specs.declared.mirror.Mirror.{Mirror}
use Rattle.egt_board.specs.declared.mirror.Mirror.TheVariants.{Colours}
use Rattle.egt_board.specs.Man.{other_side}
use Rattle.egt_board.specs.Placement.{Placement}
use Rattle.egt_board.specs.SquareSet.{total}
use Rattle.egt_board.specs.Setup.{Setup}
use Rattle.egt_board.specs.Mirror.{IsMirrored, man_by}
use Rattle.egt_board.specs.Mirrored.{AreMirrored}
use Rattle.egt_board.specs.Symmetry.{IsImage, KeepsPlay}

-- q comes from p by one symmetry that p's men allow, or by the flip of colours
abbrev pub IsTurnOf : Setup → Setup → Type 0
IsTurnOf p q = ((n : ℕ) × (n < 8) × KeepsPlay n p.men × IsImage n p q) ⊎ IsMirrored Colours p q

-- q comes from p by so many of them
abbrev pub Comes : ℕ → Setup → Setup → Type 0
Comes zero p q = p ≡ q
Comes (suc n) p q = (r : Setup) × IsTurnOf p r × Comes n r q

-- by any number of them
abbrev pub AreImages : Setup → Setup → Type 0
AreImages p q = (n : ℕ) × Comes n p q

-- so many mirrors lead from p to q, from position to position
abbrev pub Reflects : ℕ → Setup → Setup → Type 0
Reflects zero p q = p ≡ q
Reflects (suc n) p q = (r : Setup) × ((m : Mirror) × AreMirrored m p r) × Reflects n r q

-- kinds and men by number, to be compared
abbrev pub kind_number : Kind → ℕ
kind_number Q = 0
kind_number R = 1
kind_number B = 2
kind_number N = 3
kind_number P = 4
kind_number K = 5

abbrev pub side_number : Side → ℕ
side_number White = 0
side_number Black = 1

abbrev pub man_number : Man → ℕ
man_number man = 6 * side_number man.side + kind_number man.kind

-- 1 where this man stands there
abbrev pub stands_here : Man → Option Man → ℕ
stands_here man None = 0
stands_here man (Some other) = if man_number man == man_number other then 1 else 0

-- how many of this man stand on the board
unfoldable pub count_of : Placement → Man → ℕ
count_of men man = total (λ s. stands_here man (map.get men s)) 64

-- the men of q are those of p, with the same side to move, or those of p with colours exchanged, and the other side
pub record SameMen (p q : Setup) : Type 0 where
  pub men : (man : Man) → count_of q.men man ≡ count_of p.men man
  pub side : q.side ≡ p.side

pub record ExchangedMen (p q : Setup) : Type 0 where
  pub men : (man : Man) → count_of q.men (man_by Colours man) ≡ count_of p.men man
  pub side : q.side ≡ other_side p.side
