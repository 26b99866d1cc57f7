use Rattle.std.proofs.Common.{◌≡◌, ℕ, ◌-◌, [], length, map, slice_index_or}
use Rattle.egt_graph.proofs.schedule.grow.Given as goal

abbrev pub invariant-longer : goal.invariant-longer
invariant-longer l =
    (r : ℕ) → slice_index_or (map (λ nodes. nodes.items) l.rounds.items) r [] ≡ slice_index_or (map (λ nodes. nodes.items) l.initial.rounds.items) r []

abbrev pub decreases-longer : goal.decreases-longer
decreases-longer l = l.len - length l.rounds.items
