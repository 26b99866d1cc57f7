-- A file or a rank, from 0 to 7.
use Rattle.std.specs.Prelude.{◌≡◌, ℕ, ◌+◌}
use Rattle.egt_board.specs.declared.step.Way.{Way}
use Rattle.egt_board.specs.declared.step.Way.TheVariants.{Up, Down, Still}

-- b is n further than a, that way
abbrev pub Further : Way → ℕ → ℕ → ℕ → Type 0
Further Up n a b = b ≡ a + n
Further Down n a b = a ≡ b + n
Further Still n a b = b ≡ a
