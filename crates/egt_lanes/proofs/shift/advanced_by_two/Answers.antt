use Rattle.std.proofs.Common.{◌∙◌, ap, get_or, max, subst}
use Rattle.egt_lanes.specs.Prelude.{Step}
use Rattle.egt_lanes.proofs.Advancing.{by_two}
use Rattle.egt_lanes.proofs.Riding.{IsShifted}
use Rattle.egt_lanes.proofs.shift.advanced_by_two.Goals as goal

pub returns : goal.returns
returns c s s_in =
    let near = c.shifted-near.ensures in
    let far = c.shifted-far.ensures in
    let first = subst (λ (d : Step). IsShifted d c.kept.result c.shifted-near.result) c.one_ahead-ahead.ensures record { moved = near.moved; off_board = near.off_board } in
    let second = subst (λ (d : Step). IsShifted d c.kept-2.result c.shifted-far.result) c.one_ahead-ahead.ensures record { moved = far.moved; off_board = far.off_board } in
    by_two c.args.free.bits c.args.side c.args.row c.kept.result c.shifted-near.result c.kept.ensures first s s_in c.pawn_homes.result.bits c.kept-2.result c.shifted-far.result c.kept-2.ensures second c.pawn_homes.ensures (get_or c.args.low s 0)
    (get_or c.greater.result s 0) (c.greater.ensures s s_in ∙ ap (λ v. max (get_or c.args.low s 0) v) (c.kept-3.ensures s s_in))
