use Rattle.egt_blocks.proofs.LastTaken.{RowsTaken}
use Rattle.egt_blocks.proofs.taken_blocks.read_king_takes.Given as goal

abbrev pub invariant-loop-to : goal.invariant-loop-to
invariant-loop-to g l = RowsTaken (g.S.LoneScores.number l.source) (g.S.LoneScores.worth l.source l.column) l.flips l.men l.side l.rest l.out

abbrev pub decreases-loop-to : goal.decreases-loop-to
decreases-loop-to g l = l.rest.bits
