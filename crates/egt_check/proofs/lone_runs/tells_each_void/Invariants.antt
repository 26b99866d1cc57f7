use Rattle.std.specs.Prelude.{ℕ, ◌<◌}
use Rattle.egt_check.specs.Prelude.{TellsVoid}
use Rattle.egt_check.proofs.lone_runs.tells_each_void.Given as goal

abbrev pub invariant-loop-code : goal.invariant-loop-code
invariant-loop-code l = (i : ℕ) → i < l.code → TellsVoid l.table i
