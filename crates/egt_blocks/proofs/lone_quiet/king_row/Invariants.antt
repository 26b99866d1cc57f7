use Rattle.std.specs.Prelude.{ℕ, ◌<◌, slice_index}
use Rattle.egt_blocks.specs.Prelude.{Has, IsRaised, IsBesideKing, AreKingCodesAlone}
use Rattle.egt_blocks.proofs.BlockRaising.{GoneKing}
use Rattle.egt_blocks.proofs.lone_quiet.king_row.Given as goal

-- the row is raised to the codes of the steps so far, and what is left is beside the king
abbrev pub invariant-loop-to : goal.invariant-loop-to
invariant-loop-to g l =
    ((s : ℕ) → s < 64 → IsRaised 0 (AreKingCodesAlone (g.S.LoneScores.number l.source) l.men l.side (GoneKing l.men l.side l.rest) s) (g.S.LoneScores.worth l.source l.column) (slice_index l.out s))
    × ((k : ℕ) → k < 64 → Has l.rest k → IsBesideKing l.men l.side k)

abbrev pub decreases-loop-to : goal.decreases-loop-to
decreases-loop-to g l = l.rest.bits
