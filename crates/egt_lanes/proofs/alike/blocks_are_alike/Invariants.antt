use Rattle.std.specs.Prelude.{ℕ, ◌*◌, ◌<◌, slice_index}
use Rattle.egt_lanes.specs.Prelude.{AreVoidOrAlike}
use Rattle.egt_lanes.proofs.alike.blocks_are_alike.Given as goal

-- the blocks so far
abbrev pub invariant-loop-block : goal.invariant-loop-block
invariant-loop-block l = (i : ℕ) → i < 64 * l.block → AreVoidOrAlike (slice_index l.mate i) (slice_index l.zeroing i)
