use Rattle.std.proofs.Common.{arith, rules, ◌+◌}
use Rattle.egt_board.proofs.Rides.{Rode-more, reach_more, reach_stopped, reach_edge}
use Rattle.egt_board.proofs.Bits.{bit_at_untold}
use Rattle.egt_board.proofs.Geometry.{Away-more}
use Rattle.egt_board.proofs.attack_lines.ride.Goals as goal

pub returns-in_default : goal.returns-in_default
returns-in_default c =
    reach_edge c.args.occupied.bits c.loop-count.reached.bits c.loop-count._count c.args.most c.args.from c.loop-count.at c.args.step (omega arith) c.loop-count.invariant (search rules)

pub returns-then-contains : goal.returns-then-contains
returns-then-contains c =
    let n = c.loop-count._count in
    reach_stopped c.args.occupied.bits _ (n + 1) c.args.most c.args.from c.in-Some.next c.args.step (omega arith) (omega arith) (Away-more c.args.step n _ _ _ c.loop-count.invariant.here c.in-Some.ensures.found) (search rules) (reach_more c.args.occupied.bits _ _ n c.args.from c.loop-count.at c.in-Some.next c.args.step c.loop-count.invariant c.in-Some.ensures.found c.with-reached.ensures.same c.with-reached.ensures.others)

pub loop-count-preserved : goal.loop-count-preserved
loop-count-preserved c =
    Rode-more c.args.occupied.bits _ _ c.loop-count._count c.args.from c.loop-count.at c.in-Some.next c.args.step c.loop-count.invariant c.in-Some.ensures.found c.with-reached.ensures.same c.with-reached.ensures.others (bit_at_untold _ _ _ c.contains.ensures c.if-contains.false)
