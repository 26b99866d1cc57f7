use Rattle.std.specs.Prelude.{ℕ, ◌<◌, ◌≤◌}
use Rattle.egt_sweep.specs.Prelude.{entry_at, Mate}
use Rattle.egt_sweep.proofs.limit.first_above.Given as goal

-- no mate entry so far is greater
abbrev pub invariant-loop-index : goal.invariant-loop-index
invariant-loop-index l = (i : ℕ) → i < l.index → entry_at l.fn.table Mate i ≤ l.fn.most
