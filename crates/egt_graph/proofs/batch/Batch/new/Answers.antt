use Rattle.std.proofs.Common.{◌≡◌, ◌++◌, ◌∷◌, [], length, ◌∙◌, arith, rules}
use Rattle.egt_graph.specs.Prelude.{common_steps}
use Rattle.egt_graph.proofs.ListsAdded.{Targets_more}
use Rattle.egt_graph.proofs.batch.Batch.new.Goals as goal

pub loop-node-preserved : goal.loop-node-preserved
loop-node-preserved g c =
    let h = c.loop-node.invariant in
    let more : c.extend_from_slice.new.self.items ≡ c.loop-node.targets.items ++ c.as_slice.result.now = search rules in
    let one : c.push-in-loop-node.new.self.items ≡ c.loop-node.starts.items ++ length c.extend_from_slice.new.self.items ∷ [] = search rules in
    let is = c.as_slice.ensures.value ∙ c.into-sources.ensures in
    record {
      kept = rw (one, more) (Targets_more (g.G.Game.graph c.args.game.now) c.deref-node-items.result.now c.loop-node.targets.items c.loop-node.starts.items
          c.as_slice.result.now c.loop-node.node-index h.kept h.long h.last is);
      long = grind (arith, common_steps);
      last = grind (arith, common_steps);
    }
