use Rattle.std.specs.Prelude.{ℕ, ◌*◌, ◌<◌, slice_index}
use Rattle.egt_lanes.specs.Prelude.{IsVoidOrNear}
use Rattle.egt_lanes.proofs.near.blocks_are_near.Given as goal

-- the blocks so far
abbrev pub invariant-loop-block : goal.invariant-loop-block
invariant-loop-block l = (i : ℕ) → i < 64 * l.block → IsVoidOrNear (slice_index l.mate i) (slice_index l.reach i)
