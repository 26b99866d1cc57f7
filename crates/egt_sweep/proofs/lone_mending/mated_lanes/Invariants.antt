use Rattle.egt_sweep.proofs.lone_mending.mated_lanes.Given as goal

abbrev pub decreases-loop-square : goal.decreases-loop-square
decreases-loop-square l = l.rest.bits
