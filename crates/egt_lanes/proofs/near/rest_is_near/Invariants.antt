use Rattle.std.specs.Prelude.{ℕ, ◌≤◌, ◌<◌, slice_index}
use Rattle.egt_lanes.specs.Prelude.{IsVoidOrNear}
use Rattle.egt_lanes.proofs.near.rest_is_near.Given as goal

-- the places so far
abbrev pub invariant-loop-place : goal.invariant-loop-place
invariant-loop-place l = (i : ℕ) → l.fn.from ≤ i → i < l.place → IsVoidOrNear (slice_index l.mate i) (slice_index l.reach i)
