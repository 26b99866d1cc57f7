use Rattle.std.proofs.Common.{◌≡◌, ℕ, ◌<◌, true, false, length, slice_index_or}
use Rattle.egt_graph.proofs.solver.post_all.Given as goal

abbrev pub invariant-loop-block : goal.invariant-loop-block
invariant-loop-block g l = record {
  game : l.rounds.game ≡ l.initial.rounds.game;
  long : length l.rounds.state.posted ≡ length l.initial.rounds.state.posted;
  same : l.rounds.state ≡ record l.initial.rounds.state { posted = l.rounds.state.posted };
  posted : (k : ℕ) → k < l.block → slice_index_or l.rounds.state.posted k false ≡ true;
}
