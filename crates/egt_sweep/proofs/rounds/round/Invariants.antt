use Rattle.egt_sweep.proofs.RoundKept.{Passed}
use Rattle.egt_sweep.proofs.rounds.round.Given as goal

abbrev pub invariant-loop-i : goal.invariant-loop-i
invariant-loop-i l = Passed l.f l.fn.table l.fn.items l.table l.items l.marks l.kept l.looks l.i
