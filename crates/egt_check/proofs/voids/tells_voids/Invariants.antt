use Rattle.std.specs.Prelude.{ℕ, ◌<◌}
use Rattle.egt_check.specs.Prelude.{TellsVoidsIn}
use Rattle.egt_check.proofs.voids.tells_voids.Given as goal

-- the shelves so far
abbrev pub invariant-loop-shelf : goal.invariant-loop-shelf
invariant-loop-shelf l = record {
  told : (shelf : ℕ) → shelf < l.shelf → TellsVoidsIn l.table shelf;
}
