use Rattle.std.specs.Prelude.{◌≡◌, ◌≤◌, take}
use Rattle.egt_sweep.specs.Prelude.{array_vec_len, table_at, exits_by, metric_of, known}
use Rattle.egt_sweep.proofs.exits.exits_of.Given as goal

-- the exits of the moves so far
abbrev pub invariant-loop-chess_move : goal.invariant-loop-chess_move
invariant-loop-chess_move l =
    (l.list.items ≡ exits_by (known (table_at l.library) l.class l.objective) (metric_of l.objective) l.class l.position (take l.chess_move-index l.chess_move-items))
    × (array_vec_len l.list ≤ l.chess_move-index)
