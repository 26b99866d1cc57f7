-- Rows by the squares that the other side's pawns have passed.
use Rattle.std.specs.Prelude.{◌≡◌, ℕ, ◌<◌, ◌≤◌, ◌⊎◌, List}
use Rattle.egt_board.specs.Pawn.{ahead}
use Rattle.egt_board.specs.declared.man.Side.{Side}
use Rattle.egt_lanes.specs.Blocks.{at}

-- no pawn stands there
abbrev pub IsPastPawns : ℕ → Type 0
IsPastPawns t = (t < 8) ⊎ (56 ≤ t)

-- v is what stands in the row of the square one ahead of a for that side, or 0 where no pawn may stand there
abbrev pub IsAtPassed : (side : Side) (arrived : List (List ℕ)) (a b v : ℕ) → Type 0
IsAtPassed side arrived a b v = ((ahead side a < 64) × (v ≡ at arrived (ahead side a) b)) ⊎ (IsPastPawns (ahead side a) × (v ≡ 0))
