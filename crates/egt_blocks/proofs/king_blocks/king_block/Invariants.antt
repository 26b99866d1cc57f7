use Rattle.std.specs.Prelude.{ℕ, ◌<◌}
use Rattle.egt_blocks.specs.Prelude.{other_side, Has, at, IsRaised, IsBesideKing, AreKingCodes, AreKept}
use Rattle.egt_blocks.proofs.BlockRaising.{GoneKing}
use Rattle.egt_blocks.proofs.king_blocks.king_block.Given as goal

-- the block is raised to the codes of the steps so far, what is left is beside the king, and what is kept holds
abbrev pub invariant-loop-to : goal.invariant-loop-to
invariant-loop-to g l =
    ((a b : ℕ) → a < 64 → b < 64 → IsRaised 0 (AreKingCodes (g.S.ShelfScores.number l.source) l.men l.side (GoneKing l.men l.side l.rest) a b) (g.S.ShelfScores.worth l.source l.column) (at l.out a b))
    × ((k : ℕ) → k < 64 → Has l.rest k → IsBesideKing l.men l.side k)
    × AreKept (g.S.ShelfScores.number l.source) (g.S.ShelfScores.worth l.source) l.men (other_side l.side) l.keys l.blocks

abbrev pub decreases-loop-to : goal.decreases-loop-to
decreases-loop-to g l = l.rest.bits
