use Rattle.std.proofs.Common.{ℕ, List, get_or, arith, subst}
use Rattle.egt_lanes.specs.Prelude.{take_all, Step, Up, OneOf, step, Away, at, IsRaised}
use Rattle.egt_lanes.proofs.Riding.{next_of_list}
use Rattle.egt_lanes.proofs.walk.hopped_along.Goals as goal

pub loop-step-preserved : goal.loop-step-preserved
loop-step-preserved c b b_in =
    let lane : List ℕ → ℕ = λ r. get_or r b 0 in
    let H : ℕ → Step → Type 0 = λ t d. Away d 1 c.args.from t in
    next_of_list (lane c.args.low) (lane c.loop-step.best) (lane c.hopped-best.result) H (λ t. at c.args.rows.now t b) c.args.steps.now c.loop-step.step-index (step Up 0 Up 0)
    (omega arith) (c.loop-step.invariant b b_in) (c.hopped-best.ensures b b_in)

pub returns : goal.returns
returns c b b_in =
    subst (λ (ds : List Step). IsRaised (get_or c.args.low b 0) (λ t. OneOf (λ d. Away d 1 c.args.from t) ds) (λ t. at c.args.rows.now t b) (get_or c.loop-step.best b 0))
    (take_all c.loop-step.step-index c.args.steps.now (omega arith)) (c.loop-step.invariant b b_in)
