use Rattle.std.proofs.Common.{take}
use Rattle.egt_commands.proofs.Marking.{Adds}
use Rattle.egt_commands.proofs.descent.mark_children.Given as goal

abbrev pub invariant-loop-child : goal.invariant-loop-child
invariant-loop-child l = Adds l.initial.marks l.marks (take l.child-index l.child-items)
