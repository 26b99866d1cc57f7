use Rattle.egt_board.specs.declared.man.Side.{Side}
use Rattle.egt_board.specs.declared.man.Side.TheVariants.{White, Black}

abbrev pub other_side : Side → Side
other_side White = Black
other_side Black = White
