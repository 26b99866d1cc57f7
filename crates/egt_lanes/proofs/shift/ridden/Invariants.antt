use Rattle.egt_lanes.proofs.Riding.{AreRidden}
use Rattle.egt_lanes.proofs.shift.ridden.Given as goal

-- `last` is what stands so many steps away, and `best` the greatest of all so far
abbrev pub invariant-loop-steps : goal.invariant-loop-steps
invariant-loop-steps l = AreRidden l.free.bits l.step l.fn.row l.last l.best l._steps
