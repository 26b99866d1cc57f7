use Rattle.std.proofs.Common.{◌≡◌, get_or, subst, arith}
use Rattle.egt_lanes.specs.Prelude.{reach_score}
use Rattle.egt_lanes.proofs.Rows.{reach_scores, reach_scores_at}
use Rattle.egt_lanes.proofs.score.byte_reach_scores.Goals as goal

pub returns : goal.returns
returns c s s_in =
    let long = c.fits-entries.0 in
    subst (λ n. get_or (reach_scores n c.args.entries) s 0 ≡ reach_score (get_or c.args.entries s 0)) long (reach_scores_at c.args.entries s (omega arith) c.fits-entries.1)
