use Rattle.std.proofs.Common.{◌≡◌, get_or, subst, arith}
use Rattle.egt_lanes.specs.Prelude.{Rides, IsRaised}
use Rattle.egt_lanes.proofs.Riding.{HasBit, ridden_first, ridden_more}
use Rattle.egt_lanes.proofs.shift.ridden.Goals as goal

pub loop-steps-init : goal.loop-steps-init
loop-steps-init c =
    let e = c.shifted-last.ensures in
    ridden_first c.args.free.bits c.args.step c.args.row c.shifted-last.result record { moved = e.moved; off_board = e.off_board }

pub loop-steps-preserved : goal.loop-steps-preserved
loop-steps-preserved c =
    let e = c.shifted-last-in-loop-steps.ensures in
    ridden_more c.args.free.bits c.args.step c.args.row c.loop-steps.last c.loop-steps.best c.kept.result c.shifted-last-in-loop-steps.result c.greater-best.result c.loop-steps._steps
    (omega arith) c.loop-steps.invariant c.kept.ensures record { moved = e.moved; off_board = e.off_board } c.greater-best.ensures

pub returns : goal.returns
returns c s s_in =
    let all : c.loop-steps._steps ≡ 7 = omega arith in
    subst (λ n. IsRaised 0 (λ t. Rides (HasBit c.args.free.bits) n s t c.args.step) (λ t. get_or c.args.row t 0) (get_or c.loop-steps.best s 0)) all (c.loop-steps.invariant.all s s_in)
