use Rattle.std.proofs.Common.{◌+◌, ◌*◌, if◌then◌else◌, map, refl, ap}
use Rattle.egt_lanes.specs.Prelude.{range_with_len}
use Rattle.egt_lanes.proofs.Entries.{second_at}
use Rattle.egt_lanes.proofs.load.parted.Goals as goal
use Rattle.egt_lanes.proofs.load.parted.Goals.{then-second, else-second}

pub returns : goal.returns
returns c s s_in = elim c.if-second.branch [
  | then-second w ↦ second_at c.args.low c.args.high (map (λ s. 2 * s + 1) (range_with_len 0 64)) c.if-second.result 1 (if c.args.second then 1 else 0) refl tt w.result-is (ap (λ b. if b then 1 else 0) w.if-second.true) s s_in
  | else-second w ↦ second_at c.args.low c.args.high (map (λ s. 2 * s + 0) (range_with_len 0 64)) c.if-second.result 0 (if c.args.second then 1 else 0) refl tt w.result-is (ap (λ b. if b then 1 else 0) w.if-second.false) s s_in
]
