use Rattle.std.proofs.Common.{◌+◌, ◌*◌, ◌<◌, ◌∙◌, arith}
use Rattle.egt_lanes.specs.Prelude.{side_number}
use Rattle.egt_lanes.proofs.Entries.{joined_at, side_number-small}
use Rattle.egt_lanes.proofs.load.load.Goals as goal

pub returns : goal.returns
returns c s s_in =
    let small : side_number c.args.side < 2 = side_number-small c.args.side in
    c.of_side.ensures s s_in
    ∙ joined_at c.loaded.result c.loaded-2.result c.args.entries.now 64 (2 * s + side_number c.args.side) (2 * s + side_number c.args.side) (omega arith) c.loaded.ensures c.loaded-2.ensures
    (omega arith) (λ below. omega arith) (λ above. omega arith)
