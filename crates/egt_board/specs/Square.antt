-- A square is its number, 8 * rank + file, both from 0.
use Rattle.std.specs.Prelude.{ℕ, ◌%◌, ◌/◌}

abbrev pub file_of : ℕ → ℕ
file_of s = s % 8

abbrev pub rank_of : ℕ → ℕ
rank_of s = s / 8
