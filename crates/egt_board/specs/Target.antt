-- En passant targets: FIDE Laws of Chess 2023, article 3.7.3; PGN standard 1994, section 16.1.3.4.
use Rattle.std.specs.Prelude.{◌≡◌, ℕ, Option, IfSome}
use Rattle.egt_board.specs.declared.man.Side.{Side}
use Rattle.egt_board.specs.declared.man.Side.TheVariants.{White, Black}
use Rattle.egt_board.specs.Man.{other_side}
use Rattle.egt_board.specs.Square.{rank_of}
use Rattle.egt_board.specs.Placement.{Placement, Stands, IsFree}
use Rattle.egt_board.specs.Pawn.{pawn_of, ahead}

-- the rank of a target with that side to move: the sixth for White, the third for Black (counted from 0)
abbrev pub target_rank : Side → ℕ
target_rank White = 5
target_rank Black = 2

-- with that side to move, the last move may have been the advance of a pawn by two squares over t
pub record IsTarget (men : Placement) (mover : Side) (t : ℕ) : Type 0 where
  pub rank : rank_of t ≡ target_rank mover
  pub empty : IsFree men t
  -- the square that the pawn came from
  pub left : IsFree men (ahead mover t)
  -- the pawn that advanced
  pub advanced : Stands men (ahead (other_side mover) t) (pawn_of (other_side mover))

-- a target, if there is one, is one that the last move may have set
abbrev pub FitsTarget : Placement → Side → Option ℕ → Type 0
FitsTarget men mover target = IfSome target (IsTarget men mover)
