use Rattle.egt_board.proofs.Rides.{Rode}
use Rattle.egt_board.proofs.attack_lines.ride.Given as goal

abbrev pub invariant-loop-count : goal.invariant-loop-count
invariant-loop-count l = Rode l.occupied.bits l.reached.bits l._count l.fn.from l.at l.step
