use Rattle.std.specs.Prelude.{ℕ, ◌≤◌, ◌↔◌}
use Rattle.egt_sweep.specs.Prelude.{Contains, IsStrictlyIncreasing, array_vec_len, LeadsOn}
use Rattle.egt_sweep.proofs.Collecting.{Collected}
use Rattle.egt_sweep.proofs.edges.edges.Given as goal

-- the list has, in order, where the moves so far lead
abbrev pub invariant-loop-chess_move : goal.invariant-loop-chess_move
invariant-loop-chess_move l =
    IsStrictlyIncreasing l.list.items × (array_vec_len l.list ≤ l.chess_move-index)
    × ((k : ℕ) → Contains l.list.items k ↔ Collected (LeadsOn l.metric l.class l.position) l.chess_move-items l.chess_move-index k)
