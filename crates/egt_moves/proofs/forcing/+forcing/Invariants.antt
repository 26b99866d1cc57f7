use Rattle.std.specs.Prelude.{◌<◌, ◌-◌}
use Rattle.egt_moves.specs.Prelude.{MatesWithin, AvoidsMateFor, chess}
use Rattle.egt_moves.proofs.Trying.{Tried}
use Rattle.egt_moves.proofs.forcing.+forcing.Given as goal

abbrev pub decreases-mates_within : goal.decreases-mates_within
decreases-mates_within l = l.plies

abbrev pub decreases-is_mated_within : goal.decreases-is_mated_within
decreases-is_mated_within l = l.plies

-- no move so far mates
abbrev pub invariant-mates_within-loop-chess_move : goal.invariant-mates_within-loop-chess_move
invariant-mates_within-loop-chess_move l = (0 < l.plies) × Tried (AvoidsMateFor chess (l.plies - 1)) l.position l.chess_move-items l.chess_move-index

-- no move so far is a defence
abbrev pub invariant-is_mated_within-loop-chess_move : goal.invariant-is_mated_within-loop-chess_move
invariant-is_mated_within-loop-chess_move l = (0 < l.plies) × Tried (MatesWithin chess (l.plies - 1)) l.position l.chess_move-items l.chess_move-index
