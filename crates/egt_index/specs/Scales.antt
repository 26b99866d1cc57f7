-- How many digits a man has, and how they count his squares.
use Rattle.std.specs.Prelude.{ℕ, if◌then◌else◌, Option, Some, None}
use Rattle.egt_board.specs.declared.man.Kind.{Kind}
use Rattle.egt_board.specs.declared.man.Kind.TheVariants.{Q, R, B, N, P, K}
use Rattle.egt_board.specs.declared.man.Man.{Man}
use Rattle.egt_class.specs.Material.{Material}
use Rattle.egt_class.specs.Size.{has_target}

-- how many digits a man other than the white king has, and how much less they are than his square
abbrev pub kind_digits : Kind → ℕ
kind_digits P = 48
kind_digits Q = 64
kind_digits R = 64
kind_digits B = 64
kind_digits N = 64
kind_digits K = 64

abbrev pub kind_less : Kind → ℕ
kind_less P = 8
kind_less Q = 0
kind_less R = 0
kind_less B = 0
kind_less N = 0
kind_less K = 0

abbrev pub digits_at : Option Man → ℕ
digits_at None = 1
digits_at (Some man) = kind_digits man.kind

-- the side to move and the target make so many digits at the end
abbrev pub ends_of : Material → ℕ
ends_of m = if has_target m then 4 else 2
