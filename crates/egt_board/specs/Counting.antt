-- Men to be counted.
use Rattle.std.specs.Prelude.{◌==◌, Bool}
use Rattle.egt_board.specs.declared.man.Man.{Man}
use Rattle.egt_board.specs.Images.{man_number}

-- the same man
abbrev pub is_man : Man → Man → Bool
is_man man other = man_number man == man_number other
