use Rattle.std.specs.Prelude.{◌≡◌}
use Rattle.egt_graph.specs.Prelude.{frontier_below}
use Rattle.egt_graph.proofs.scan.push_places.Given as goal

abbrev pub invariant-loop-place : goal.invariant-loop-place
invariant-loop-place l = l.places.items ≡ frontier_below l.entries l.round l.place
