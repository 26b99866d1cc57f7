use Rattle.std.proofs.Common.{◌≡◌, get_or, subst, arith}
use Rattle.egt_lanes.specs.Prelude.{reach_due_score}
use Rattle.egt_lanes.proofs.Rows.{reach_due, reach_due_at}
use Rattle.egt_lanes.proofs.score.reach_due.Goals as goal

pub returns : goal.returns
returns c s s_in =
    let long = c.fits-row.0 in
    subst (λ n. get_or (reach_due n c.args.row) s 0 ≡ reach_due_score (get_or c.args.row s 0)) long (reach_due_at c.args.row s (omega arith) c.fits-row.1)
