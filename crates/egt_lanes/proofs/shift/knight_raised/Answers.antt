use Rattle.std.specs.Prelude.{ℕ, [], ◌∷◌, get_or}
use Rattle.egt_lanes.specs.Prelude.{Step, Up, Down, Away, step}
use Rattle.egt_lanes.proofs.Riding.{four_more_steps, no_steps}
use Rattle.egt_lanes.proofs.shift.knight_raised.Goals as goal

pub returns : goal.returns
returns c s s_in =
    let H : ℕ → Step → Type 0 = λ t d. Away d 1 s t in
    let f : ℕ → ℕ = λ t. get_or c.args.row t 0 in
    let wide = four_more_steps H f [] c.step.ensures c.step-2.ensures c.step-3.ensures c.step-4.ensures (no_steps (get_or c.args.low s 0) H f)
    (c.step_raised-left_down.ensures s s_in) (c.step_raised-left_up.ensures s s_in) (c.step_raised-right_down.ensures s s_in) (c.step_raised-right_up.ensures s s_in) in
    four_more_steps H f (step Up 2 Up 1 ∷ step Up 2 Down 1 ∷ step Down 2 Up 1 ∷ step Down 2 Down 1 ∷ []) c.step-5.ensures c.step-6.ensures c.step-7.ensures c.step-8.ensures wide
    (c.step_raised-down_left.ensures s s_in) (c.step_raised-up_left.ensures s s_in) (c.step_raised-down_right.ensures s s_in) (c.step_raised.ensures s s_in)
