-- Where a square comes to lie by a step along its rank or its file: 64 where that is off the board.
use Rattle.std.specs.Prelude.{ℕ, ◌+◌, ◌-◌, ◌*◌, nat_lt, if◌then◌else◌}
use Rattle.egt_board.specs.declared.step.Way.{Way}
use Rattle.egt_board.specs.declared.step.Way.TheVariants.{Up, Down, Still}
use Rattle.egt_board.specs.Square.{file_of}

-- n files further that way
abbrev pub beside : Way → ℕ → ℕ → ℕ
beside Up n s = if nat_lt (file_of s + n) 8 then s + n else 64
beside Down n s = if nat_lt (file_of s) n then 64 else s - n
beside Still n s = s

-- n ranks further that way
abbrev pub beyond : Way → ℕ → ℕ → ℕ
beyond Up n s = if nat_lt (s + 8 * n) 64 then s + 8 * n else 64
beyond Down n s = if nat_lt s (8 * n) then 64 else s - 8 * n
beyond Still n s = s
