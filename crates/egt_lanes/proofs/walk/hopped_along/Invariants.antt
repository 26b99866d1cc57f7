use Rattle.std.specs.Prelude.{ℕ, ◌<◌, take, get_or}
use Rattle.egt_lanes.specs.Prelude.{OneOf, Away, at, IsRaised}
use Rattle.egt_lanes.proofs.walk.hopped_along.Given as goal

abbrev pub invariant-loop-step : goal.invariant-loop-step
invariant-loop-step l =
    (b : ℕ) → b < 64 → IsRaised (get_or l.fn.low b 0) (λ t. OneOf (λ d. Away d 1 l.from t) (take l.step-index l.steps)) (λ t. at l.rows t b) (get_or l.best b 0)
