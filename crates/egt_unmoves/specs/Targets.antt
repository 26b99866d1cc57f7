-- Pawns that have advanced two squares.
use Rattle.std.specs.Prelude.{ℕ}
use Rattle.egt_board.specs.declared.man.Side.{Side}
use Rattle.egt_board.specs.declared.man.Side.TheVariants.{White, Black}

-- the rank that they are on: the fourth for White, the fifth for Black (counted from 0)
abbrev pub advanced_rank : Side → ℕ
advanced_rank White = 3
advanced_rank Black = 4
