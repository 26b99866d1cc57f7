use Rattle.std.specs.Prelude.{ℕ, [], get_or}
use Rattle.egt_lanes.specs.Prelude.{Step, Rides}
use Rattle.egt_lanes.proofs.Riding.{HasBit, four_more_steps, no_steps}
use Rattle.egt_lanes.proofs.shift.straight_raised.Goals as goal

pub returns : goal.returns
returns c s s_in =
    let H : ℕ → Step → Type 0 = λ t. Rides (HasBit c.args.free.bits) 7 s t in
    let f : ℕ → ℕ = λ t. get_or c.args.row t 0 in
    four_more_steps H f [] c.step.ensures c.step-2.ensures c.step-3.ensures c.step-4.ensures
    (no_steps (get_or c.args.low s 0) H f) (c.ray_raised-down.ensures s s_in) (c.ray_raised-up.ensures s s_in) (c.ray_raised-left.ensures s s_in) (c.ray_raised.ensures s s_in)
