-- Where pawns arrive, and what the men are worth before they go.
use Rattle.std.specs.Prelude.{ℕ, ◌<◌, Bool, true, false, List}
use Rattle.egt_steps.specs.Prelude.{other_side, IsBeside, stand_after}
use Rattle.egt_lanes.specs.Prelude.{at}
use Rattle.egt_board.specs.declared.man.Side.{Side}
use Rattle.egt_board.specs.declared.man.Side.TheVariants.{White, Black}
use Rattle.egt_index.specs.declared.shelf_codes.ShelfMen.{ShelfMen}
use Rattle.egt_blocks.specs.Scored.{IsRead}

-- t is beside a, or is not
abbrev pub IsBesideWhere : (beside : Bool) → (a t : ℕ) → Type 0
IsBesideWhere true a t = IsBeside a t
IsBesideWhere false a t = ¬ IsBeside a t

-- the rank to which that side's pawns advance by two squares
abbrev pub leap_rank : Side → ℕ
leap_rank White = 3
leap_rank Black = 4

-- the scores of the class's men with the first one and the last one on these squares, the other side to move
abbrev pub AreStill : (c : ℕ) (worth : ℕ → ℕ) (first : Bool) (men : ShelfMen) (side : Side) (scores : List (List ℕ)) → Type 0
AreStill c worth first men side scores = (a u : ℕ) → a < 64 → u < 64 → IsRead c worth false (stand_after first false men a men.last u) (other_side side) (at scores a u)
