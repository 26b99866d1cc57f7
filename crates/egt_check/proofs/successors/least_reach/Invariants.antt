use Rattle.std.specs.Prelude.{ℕ, Some}
use Rattle.egt_check.specs.Prelude.{Setup, IsNearest, ShowsReachOf, table_at, beside, Tried}
use Rattle.egt_check.proofs.successors.least_reach.Given as goal

-- the least number after the moves so far
abbrev pub invariant-loop-chess_move : goal.invariant-loop-chess_move
invariant-loop-chess_move l =
    IsNearest (λ (q : Setup) (k : ℕ). ShowsReachOf (beside (table_at l.library) l.table) q (Some k)) l.position (Tried l.chess_move-items l.chess_move-index) l.least
