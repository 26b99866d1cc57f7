use Rattle.std.specs.Prelude.{ℕ, []}
use Rattle.egt_lanes.specs.Prelude.{Step, Rides, at, IsOpen}
use Rattle.egt_lanes.proofs.Riding.{four_more_steps, no_steps}
use Rattle.egt_lanes.proofs.walk.raise_diagonal.Goals as goal

pub returns : goal.returns
returns c a b a_in b_in =
    let H : ℕ → Step → Type 0 = λ t. Rides (IsOpen c.args.kings.bits b) 7 a t in
    let f : ℕ → ℕ = λ t. at c.args.rows.now t b in
    four_more_steps H f [] c.step.ensures c.step-2.ensures c.step-3.ensures c.step-4.ensures
    (no_steps (at c.args.out.now a b) H f) (c.raise_ray.ensures a b a_in b_in) (c.raise_ray-2.ensures a b a_in b_in) (c.raise_ray-3.ensures a b a_in b_in) (c.raise_ray-4.ensures a b a_in b_in)
