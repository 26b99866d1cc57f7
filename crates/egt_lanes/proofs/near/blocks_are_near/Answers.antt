use Rattle.egt_lanes.specs.Prelude.{IsVoidOrNear}
use Rattle.egt_lanes.proofs.LanesCompared.{more_blocks}
use Rattle.egt_lanes.proofs.near.blocks_are_near.Goals as goal

pub loop-block-preserved : goal.loop-block-preserved
loop-block-preserved c =
    more_blocks IsVoidOrNear _ _ _ _ c.loop-block.block c.loop-block.invariant c.loaded.ensures c.loaded-in-loop-block.ensures (c.are_near.ensures c.if-not-are_near.false)
