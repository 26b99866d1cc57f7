use Rattle.std.specs.Prelude.{◌≡◌, ◌+◌, length, slice_index}
use Rattle.egt_graph.specs.Prelude.{IsTargets}
use Rattle.egt_graph.proofs.batch.Batch.new.Given as goal

abbrev pub invariant-loop-node : goal.invariant-loop-node
invariant-loop-node g l = record {
  kept : IsTargets (g.G.Game.graph l.game) l.node-items l.targets.items l.starts.items l.node-index;
  long : length l.starts.items ≡ l.node-index + 1;
  last : slice_index l.starts.items l.node-index ≡ length l.targets.items;
}
