use Rattle.std.proofs.Common.{◌≡◌, get_or, subst, arith}
use Rattle.egt_lanes.specs.Prelude.{due_score}
use Rattle.egt_lanes.proofs.Rows.{due, due_at}
use Rattle.egt_lanes.proofs.score.due.Goals as goal

pub returns : goal.returns
returns c s s_in =
    let long = c.fits-row.0 in
    subst (λ n. get_or (due n c.args.row) s 0 ≡ due_score (get_or c.args.row s 0)) long (due_at c.args.row s (omega arith) c.fits-row.1)
