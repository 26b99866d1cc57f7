use Rattle.std.proofs.Common.{◌≡◌, ◌+◌, ◌*◌, map, take}
use Rattle.egt_graph.proofs.scan.block_nodes.Given as goal

abbrev pub invariant-loop-place : goal.invariant-loop-place
invariant-loop-place l = l.nodes.items ≡ map (λ k. 4096 * l.block + k) (take l.place-index l.place-items)
