use Rattle.std.specs.Prelude.{ℕ, ◌≤◌, ◌↔◌}
use Rattle.egt_sweep.specs.Prelude.{Contains, IsStrictlyIncreasing, array_vec_len, ComesFrom}
use Rattle.egt_sweep.proofs.Collecting.{Collected}
use Rattle.egt_sweep.proofs.sources.sources.Given as goal

-- the list has, in order, where the unmoves so far came from
abbrev pub invariant-loop-unmove : goal.invariant-loop-unmove
invariant-loop-unmove l =
    IsStrictlyIncreasing l.list.items × (array_vec_len l.list ≤ l.unmove-index)
    × ((k : ℕ) → Contains l.list.items k ↔ Collected (ComesFrom l.metric l.class) l.unmove-items l.unmove-index k)
