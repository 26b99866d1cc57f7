use Rattle.egt_lanes.specs.Prelude.{AreVoidOrAlike}
use Rattle.egt_lanes.proofs.LanesCompared.{more_blocks}
use Rattle.egt_lanes.proofs.alike.blocks_are_alike.Goals as goal

pub loop-block-preserved : goal.loop-block-preserved
loop-block-preserved c =
    more_blocks AreVoidOrAlike _ _ _ _ c.loop-block.block c.loop-block.invariant c.loaded.ensures c.loaded-in-loop-block.ensures (c.are_alike.ensures c.if-not-are_alike.false)
