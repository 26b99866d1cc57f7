use Rattle.std.specs.Prelude.{ℕ, ◌<◌, IsFalse}
use Rattle.egt_graph.specs.Prelude.{is_open_at}
use Rattle.egt_graph.proofs.columns.any_open.Given as goal

abbrev pub invariant-loop-i : goal.invariant-loop-i
invariant-loop-i l = (i : ℕ) → i < l.i → IsFalse (is_open_at l.plies l.entries l.waits l.later l.lost i)
