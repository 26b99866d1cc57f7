use Rattle.egt_commands.proofs.Marking.{IsMarkedFrom}
use Rattle.egt_commands.proofs.descent.descendants.Given as goal

abbrev pub invariant-loop-above : goal.invariant-loop-above
invariant-loop-above l = IsMarkedFrom l.fn.class l.above l.marks

abbrev pub decreases-loop-above : goal.decreases-loop-above
decreases-loop-above l = l.above
