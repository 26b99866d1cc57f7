-- Scores: a byte for what an entry of a table says, the greater the better for the side to move.
use Rattle.std.specs.Prelude.{ℕ, ◌*◌, ◌-◌, ◌/◌, ◌%◌, ◌==◌, nat_lt, if◌then◌else◌}

-- of an entry below 256: 0 where there is no position, n for a win 2 + 2n, 128 for a draw 1, 255 - n for a loss 3 + 2n
abbrev pub byte_score : ℕ → ℕ
byte_score e =
    if e == 0 then 0
    else (if e == 1 then 128
    else (if e % 2 == 0 then (e - 2) / 2 else 255 - (e - 3) / 2))

-- what a move that zeroes the clock is worth where it leads to a position of this mate score: lost, drawn, or won or none
abbrev pub zeroing_score : ℕ → ℕ
zeroing_score v = if nat_lt 128 v then 255 else (if v == 128 then 128 else 0)

-- the score of a position, by the greatest score after a move
abbrev pub due_score : ℕ → ℕ
due_score g = if nat_lt g 128 then 254 - g else 256 - g

-- of an entry below 128 of the column of the nearest mates: that of a loss in as many plies, and of a draw where there is no mate
abbrev pub reach_score : ℕ → ℕ
reach_score e = byte_score (2 * e - 1)

-- the score of a position in that column, by the greatest score after a move
abbrev pub reach_due_score : ℕ → ℕ
reach_due_score g = if nat_lt 128 g then g - 1 else 128
