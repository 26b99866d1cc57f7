use Rattle.egt_moves.specs.Prelude.{AvoidsMateBefore, CannotMateBefore, chess}
use Rattle.egt_moves.proofs.mate_search.search.Given as goal

-- neither side mates within fewer plies
abbrev pub invariant-loop-within : goal.invariant-loop-within
invariant-loop-within l = AvoidsMateBefore chess l.within l.position × CannotMateBefore chess l.within l.position
