-- The first man of a class's name beside the king tells in what colours a position of the class is.
use Rattle.std.specs.Prelude.{ℕ, ◌==◌, nat_lt, ◌&&◌, ◌||◌, Bool, Option, Some, None}
use Rattle.egt_class.specs.Prelude.{other_side, men_in, has_equal_sides}
use Rattle.egt_board.specs.declared.man.Man.{Man}

-- the man is of the class, and no man of the other side is like him but where both sides have the same men; without any
-- they have
unfoldable pub tells_colours : ℕ → Option Man → Bool
tells_colours c None = has_equal_sides c
tells_colours c (Some man) = nat_lt 0 (men_in c man.side man.kind) && (has_equal_sides c || men_in c (other_side man.side) man.kind == 0)
