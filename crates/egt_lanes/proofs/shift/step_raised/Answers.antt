use Rattle.std.specs.Prelude.{get_or}
use Rattle.egt_lanes.specs.Prelude.{Away}
use Rattle.egt_lanes.proofs.Riding.{raised_over, step_end}
use Rattle.egt_lanes.proofs.shift.step_raised.Goals as goal

pub returns : goal.returns
returns c s s_in =
    let e = c.shifted.ensures in
    raised_over (get_or c.args.low s 0) (get_or c.shifted.result s 0) (get_or c.greater.result s 0) (λ t. Away c.args.step 1 s t) (λ t. get_or c.args.row t 0)
    (step_end c.args.step c.args.row c.shifted.result record { moved = e.moved; off_board = e.off_board } s s_in) (c.greater.ensures s s_in)
