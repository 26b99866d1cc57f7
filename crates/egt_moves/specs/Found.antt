-- The answer of a search for mate, as the value of the position to the side to move.
use Rattle.std.specs.Prelude.{ℕ, Option, Some, None}
use Rattle.egt_board.specs.declared.man.Side.{Side}
use Rattle.egt_board.specs.declared.man.Side.TheVariants.{White, Black}
use Rattle.egt_moves.specs.declared.found.Search.{Search}
use Rattle.egt_moves.specs.declared.found.Search.TheVariants.{Mate, NotWithin}
use Rattle.egt_moves.specs.WinLossDraw.{Value, Win, Loss}

-- that the winner mates in n plies, as the side to move sees it
abbrev pub mate_by : Side → Side → ℕ → Value
mate_by White White n = Win n
mate_by White Black n = Loss n
mate_by Black White n = Loss n
mate_by Black Black n = Win n

-- the side to move first
abbrev pub found : Side → Search → Option Value
found mover (Mate winner plies) = Some (mate_by mover winner plies)
found mover NotWithin = None
