use Rattle.std.proofs.Common.{get_or}
use Rattle.egt_lanes.proofs.Advancing.{by_either}
use Rattle.egt_lanes.proofs.Riding.{HasBit}
use Rattle.egt_lanes.proofs.shift.advanced.Goals as goal

pub returns : goal.returns
returns c s s_in =
    by_either (HasBit c.args.free.bits) c.args.side s (get_or c.args.low s 0) (get_or c.advanced_by_one-near.result s 0) (get_or c.advanced_by_two.result s 0) (λ t. get_or c.args.row t 0) (c.advanced_by_one-near.ensures s s_in) (c.advanced_by_two.ensures s s_in)
