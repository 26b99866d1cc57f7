-- A code tells a class's men on their squares, each man by a digit of his own: of two equal men either may be written first, and no code need be
-- the least.
use Rattle.std.specs.Prelude.{ℕ, Bool}
use Rattle.egt_board.specs.declared.man.Side.{Side}
use Rattle.egt_class.specs.Material.{material_of}
use Rattle.egt_index.specs.Spelled.{Ends, SpellsMen}
use Rattle.egt_index.specs.Stood.{IsFilled, list_of}
use Rattle.egt_index.specs.declared.stand.Stand.{Stand}

-- the digits of the code are those of the men on these squares, of that side to move, and of a target where one was passed
pub record TellsMen (targeted : Bool) (c code : ℕ) (stand : Stand) (side : Side) : Type 0 where
  pub number : ℕ
  pub men : SpellsMen (material_of c) number (list_of stand)
  pub filled : IsFilled stand
  pub ends : Ends (material_of c) code number side targeted
