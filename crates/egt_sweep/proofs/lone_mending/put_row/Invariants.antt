use Rattle.egt_sweep.specs.FillPrelude.{IsMendedAt}
use Rattle.egt_sweep.proofs.lone_mending.put_row.Given as goal

abbrev pub invariant-loop-square : goal.invariant-loop-square
invariant-loop-square l = IsMendedAt l.part (λ i. Unit {0}) l.fn.table l.table

abbrev pub decreases-loop-square : goal.decreases-loop-square
decreases-loop-square l = l.rest.bits
