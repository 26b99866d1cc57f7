use Rattle.std.specs.Prelude.{◌≡◌, ◌-◌, ◌≤◌}
use Rattle.egt_graph.specs.Prelude.{Running}
use Rattle.egt_graph.proofs.solver.solve.Given as goal

abbrev pub invariant-rounds : goal.invariant-rounds
invariant-rounds g l = record {
  game : l.rounds.game ≡ l.game;
  running : l.rounds.state.phase ≡ Running;
  limit : l.rounds.state.limit ≡ l.limit;
  in_limit : l.rounds.state.round ≤ l.limit;
}

abbrev pub decreases-rounds : goal.decreases-rounds
decreases-rounds g l = l.limit - l.rounds.state.round
