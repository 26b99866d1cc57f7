-- The table of what men attack on the bare board, and lines told by it.
use Rattle.std.specs.Prelude.{ℕ, ◌+◌, ◌-◌, ◌*◌, ◌^◌, ◌==◌, nat_lt, slice_index, if◌then◌else◌}
use Rattle.std.specs.Int.{bit_at}
use Rattle.std.specs.Int.Bits.{bit_and}
use Rattle.egt_board.specs.declared.man.Side.{Side}
use Rattle.egt_board.specs.declared.man.Side.TheVariants.{White, Black}
use Rattle.egt_board.specs.declared.man.Kind.{Kind}
use Rattle.egt_board.specs.declared.man.Kind.TheVariants.{Q, R, B, N, P, K}
use Rattle.egt_board.specs.declared.tables.TheConstants.{LONE}

abbrev pub row_by : Side → Kind → ℕ
row_by side Q = 0
row_by side R = 1
row_by side B = 2
row_by side N = 3
row_by White P = 4
row_by Black P = 5
row_by side K = 6

-- the squares of lesser numbers
abbrev pub below : ℕ → ℕ
below s = 2 ^ s - 1

-- the squares of greater numbers, or of lesser ones, as the second has beside the first; the second may be among them
abbrev pub beyond : ℕ → ℕ → ℕ
beyond s t = if nat_lt s t then 18446744073709551615 - below t else below t

-- what the row's man attacks from the square
abbrev pub row_at : ℕ → ℕ → ℕ
row_at r s = slice_index LONE (64 * r + s)

-- the squares that men of the row attack from both squares, where one attacks the other
abbrev pub line_by : ℕ → ℕ → ℕ → ℕ → ℕ
line_by r s t otherwise = if bit_at (row_at r s) t == 1 then bit_and (row_at r s) (row_at r t) else otherwise

-- the other squares of the line on which both stand, if there is one
abbrev pub line_of : ℕ → ℕ → ℕ
line_of s t = line_by 1 s t (line_by 2 s t 0)
