use Rattle.std.specs.Prelude.{ℕ, ◌*◌, ◌<◌}
use Rattle.egt_sweep.specs.FillPrelude.{Side, AreAllJudged}
use Rattle.egt_sweep.proofs.covering.all_are_covered.Given as goal

-- the pairs that came before are right
abbrev pub invariant-loop-pair : goal.invariant-loop-pair
invariant-loop-pair l = (pair : ℕ) (side : Side) → pair < l.pair → AreAllJudged l.filling l.table (pair * l.pairs.step) side
