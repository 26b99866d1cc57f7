use Rattle.std.proofs.Common.{ℕ, ◌<◌, true, slice_index_or, IsTrue}
use Rattle.egt_graph.proofs.step.all_set.Given as goal

abbrev pub invariant-loop-k : goal.invariant-loop-k
invariant-loop-k l = (k : ℕ) → k < l.k → IsTrue (slice_index_or l.flags k true)
