use Rattle.std.specs.Prelude.{◌≡◌, ◌-◌, ◌≤◌, length}
use Rattle.egt_graph.specs.Prelude.{frontier_below}
use Rattle.egt_graph.proofs.scan.frontier.Given as goal

abbrev pub invariant-loop-from : goal.invariant-loop-from
invariant-loop-from l = (l.from ≤ length l.entries) × (l.places.items ≡ frontier_below l.entries l.round l.from)

abbrev pub decreases-loop-from : goal.decreases-loop-from
decreases-loop-from l = length l.entries - l.from
