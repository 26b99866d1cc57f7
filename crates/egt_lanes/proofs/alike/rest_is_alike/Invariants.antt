use Rattle.std.specs.Prelude.{ℕ, ◌≤◌, ◌<◌, slice_index}
use Rattle.egt_lanes.specs.Prelude.{AreVoidOrAlike}
use Rattle.egt_lanes.proofs.alike.rest_is_alike.Given as goal

-- the places so far
abbrev pub invariant-loop-place : goal.invariant-loop-place
invariant-loop-place l = (i : ℕ) → l.fn.from ≤ i → i < l.place → AreVoidOrAlike (slice_index l.mate i) (slice_index l.zeroing i)
