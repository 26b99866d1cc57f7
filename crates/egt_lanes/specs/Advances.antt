-- A pawn's advances by their length.
use Rattle.std.specs.Prelude.{ℕ}
use Rattle.egt_board.specs.Prelude.{Advances, forward, Away}
use Rattle.egt_board.specs.declared.man.Side.{Side}

-- a pawn of that side on s advances to t, which is so many squares forward
pub record AdvancesBy (n : ℕ) (Free : ℕ → Type 0) (side : Side) (s t : ℕ) : Type 0 where
  pub advances : Advances Free side s t
  pub away : Away (forward side) n s t
