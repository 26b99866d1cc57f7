-- The side to move (PGN standard of 1994, section 16.1.3.2).
use Rattle.std.specs.Prelude.{ℕ, ◌==◌, if◌then◌else◌, List, [], ◌∷◌, Option, Some, None}
use Rattle.egt_board.specs.declared.man.Side.{Side}
use Rattle.egt_board.specs.declared.man.Side.TheVariants.{White, Black}

-- `w` or `b`
abbrev pub side_of : List ℕ → Option Side
side_of (c ∷ []) = if c == 119 then Some White else (if c == 98 then Some Black else None)
side_of _ = None
