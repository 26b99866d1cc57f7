use Rattle.std.specs.Prelude.{◌≡◌, ◌+◌, ℕ, take, slice_index}
use Rattle.egt_graph.specs.Prelude.{count_of}
use Rattle.egt_graph.proofs.columns.count_down.Given as goal

abbrev pub invariant-loop-node : goal.invariant-loop-node
invariant-loop-node l = (i : ℕ) → slice_index l.later i + count_of i (take l.node-index l.nodes) ≡ slice_index l.initial.later i
