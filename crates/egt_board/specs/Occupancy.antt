-- The squares of either side's men.
use Rattle.std.specs.Prelude.{◌≡◌, ℕ, ◌↔◌}
use Rattle.std.specs.Int.{bit_at}
use Rattle.egt_board.specs.Man.{other_side}
use Rattle.egt_board.specs.Placement.{Placement, IsFree, IsOccupiedBy}
use Rattle.egt_board.specs.Setup.{Setup}
use Rattle.egt_board.specs.SquareSet.{Has}
use Rattle.egt_board.specs.declared.occupancy.Occupancy.{Occupancy}
use Rattle.egt_board.specs.declared.square_set.SquareSet.{SquareSet}

-- all men stand on these squares
abbrev pub IsOccupied : Placement → SquareSet → Type 0
IsOccupied men all = (t : ℕ) → (bit_at all.bits t ≡ 0) ↔ IsFree men t

-- these are the squares of the side to move, and of the side that waits
pub record IsOccupancy (p : Setup) (occupancy : Occupancy) : Type 0 where
  pub own : (t : ℕ) → Has occupancy.own t ↔ IsOccupiedBy p.men t p.side
  pub enemy : (t : ℕ) → Has occupancy.enemy t ↔ IsOccupiedBy p.men t (other_side p.side)
