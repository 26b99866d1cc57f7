-- Attacks: FIDE Laws of Chess 2023, article 3.1.3, and 3.9 for the king.
use Rattle.std.specs.Prelude.{◌≡◌, ℕ, Some, None}
use Rattle.egt_board.specs.declared.man.Side.{Side}
use Rattle.egt_board.specs.declared.man.Kind.TheVariants.{K}
use Rattle.egt_board.specs.declared.man.Man.{Man}
use Rattle.egt_board.specs.Man.{other_side}
use Rattle.egt_board.specs.Placement.{Placement, Stands, IsFree}
use Rattle.egt_board.specs.Board.{Slot}
use Rattle.egt_board.specs.AttackLines.{Reaches}

-- a man of this side attacks the square; whether that man may move plays no part
pub record IsAttacked (men : Placement) (t : ℕ) (side : Side) : Type 0 where
  pub from : ℕ
  pub man : Man
  pub stands : Stands men from man
  pub theirs : man.side ≡ side
  pub reaches : Reaches (IsFree men) man from t

-- the king of that side
abbrev pub king_of : Side → Man
king_of side = record { side = side; kind = K }

-- the king of that side is attacked
pub record IsInCheck (men : Placement) (side : Side) : Type 0 where
  pub square : ℕ
  pub stands : Stands men square (king_of side)
  pub attacked : IsAttacked men square (other_side side)

-- the man of the slot is of this side and attacks the square
abbrev pub AttacksFrom : (ℕ → Type 0) → Side → ℕ → Slot → Type 0
AttacksFrom Free side t None = ⊥
AttacksFrom Free side t (Some e) = (e.1.side ≡ side) × Reaches Free e.1 e.0 t
