use Rattle.std.proofs.Common.{get_or, subst}
use Rattle.egt_lanes.specs.Prelude.{Step}
use Rattle.egt_lanes.proofs.Advancing.{by_one}
use Rattle.egt_lanes.proofs.Riding.{IsShifted}
use Rattle.egt_lanes.proofs.shift.advanced_by_one.Goals as goal

pub returns : goal.returns
returns c s s_in =
    let near = c.shifted.ensures in
    let first = subst (λ (d : Step). IsShifted d c.kept.result c.shifted.result) c.one_ahead.ensures record { moved = near.moved; off_board = near.off_board } in
    by_one c.args.free.bits c.args.side c.args.row c.kept.result c.shifted.result c.kept.ensures first s s_in (get_or c.args.low s 0) (get_or c.greater.result s 0) (c.greater.ensures s s_in)
