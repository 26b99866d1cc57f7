-- Entries at a code of the mate column and of the column of the nearest mates.
use Rattle.std.specs.Prelude.{◌≡◌, ◌↔◌, ℕ, ◌<◌}

-- no position in either column, or one in both whose number of plies has a score of its own
abbrev pub IsVoidOrNear : (mate reach : ℕ) → Type 0
IsVoidOrNear mate reach = (reach < 128) × ((reach ≡ 0) ↔ (mate ≡ 0))
