-- The order in which pairs of kings' squares are judged.
use Rattle.std.specs.Prelude.{ℕ, ◌+◌, ◌*◌, ◌/◌, ◌%◌}
use Rattle.egt_board.specs.declared.man.Side.{Side}
use Rattle.egt_board.specs.declared.man.Side.TheVariants.{White, Black}

-- with White to move the squares of the white king follow one another, of which there are so many
abbrev pub nth_pair : Side → (kings n : ℕ) → ℕ
nth_pair White kings n = 64 * (n % kings) + n / kings
nth_pair Black kings n = n
