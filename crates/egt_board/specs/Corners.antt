-- Two kings alone.
use Rattle.std.specs.FinMap as map
use Rattle.egt_board.specs.declared.man.Side.TheVariants.{White, Black}
use Rattle.egt_board.specs.Attack.{king_of}
use Rattle.egt_board.specs.Placement.{Placement}

-- White's king on a1 and Black's on h8
abbrev pub corners : Placement
corners = map.insert (map.insert map.empty 0 (king_of White)) 63 (king_of Black)
