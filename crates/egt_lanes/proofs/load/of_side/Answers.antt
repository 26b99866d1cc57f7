use Rattle.std.proofs.Common.{ℕ, ◌+◌, ◌*◌, ◌++◌, ◌∙◌, List, get_or, sym, ap}
use Rattle.egt_lanes.specs.Prelude.{Side, side_number}
use Rattle.egt_lanes.proofs.load.of_side.Goals as goal
use Rattle.egt_lanes.proofs.load.of_side.Goals.{in-White, in-Black}

pub returns : goal.returns
returns c s s_in =
    let lane = λ (r : List ℕ). get_or r s 0 in
    let place = λ (side : Side). get_or (c.args.low ++ c.args.high) (2 * s + side_number side) 0 in
    elim c.match-side.branch [
      | in-White w ↦ ap lane w.result-is ∙ w.parted.ensures s s_in ∙ ap place (sym w.in-White.is)
      | in-Black w ↦ ap lane w.result-is ∙ w.parted-in-Black.ensures s s_in ∙ ap place (sym w.in-Black.is)
    ]
