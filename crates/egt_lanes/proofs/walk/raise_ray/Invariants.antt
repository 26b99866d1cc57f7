use Rattle.egt_lanes.proofs.Sweeping.{IsSwept}
use Rattle.egt_lanes.proofs.walk.raise_ray.Given as goal

abbrev pub invariant-loop-k : goal.invariant-loop-k
invariant-loop-k l = IsSwept l.kings.bits l.step l.upward l.rows l.initial.out l.out l.reached l.k
