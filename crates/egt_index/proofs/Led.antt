-- The index after the white king went, whom a turn brings home from there, by the square of the last man.
use Rattle.std.proofs.Common.{ℕ, ◌<◌, Bool, arith}
use Rattle.egt_index.specs.Prelude.{symmetries}

-- ---- the symmetry that undoes another

pub eight : (pawns : Bool) (n : ℕ) → n < symmetries pawns → n < 8
eight pawns n n_in = grind arith
