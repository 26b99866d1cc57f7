use Rattle.std.proofs.Common.{◌/◌, ◌+◌, refl, arith}
use Rattle.egt_lanes.proofs.Weaving.{woven_at}
use Rattle.egt_lanes.proofs.block.woven.Goals as goal

pub returns-clause-low : goal.returns-clause-low
returns-clause-low c b b_in = woven_at c.args.above c.args.below 0 b (b / 2) (omega arith) c.fits-above.0 (omega arith) refl tt b_in

pub returns-clause-high : goal.returns-clause-high
returns-clause-high c b b_in = woven_at c.args.above c.args.below 64 b (32 + b / 2) refl c.fits-above.0 (omega arith) refl tt b_in
