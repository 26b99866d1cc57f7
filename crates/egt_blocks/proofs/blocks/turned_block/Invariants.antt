use Rattle.std.specs.Prelude.{◌≡◌, ℕ, ◌<◌, length}
use Rattle.egt_blocks.specs.Prelude.{Has, at, stand_on, IsRaisedAfter}
use Rattle.egt_blocks.proofs.blocks.turned_block.Given as goal

-- those of the rows below a are written
abbrev pub invariant-loop-a : goal.invariant-loop-a
invariant-loop-a g l = (length l.out ≡ 64) × ((a b : ℕ) → a < l.a → b < 64 → Has l.rows a → IsRaisedAfter l.reading.targeted (g.S.ShelfScores.number l.source) (g.S.ShelfScores.worth l.source l.reading.column) l.turn (stand_on l.men a b) l.reading.side 0 (at l.out a b))
