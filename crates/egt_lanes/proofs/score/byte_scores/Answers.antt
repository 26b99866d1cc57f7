use Rattle.std.proofs.Common.{◌≡◌, get_or, subst, arith}
use Rattle.egt_lanes.specs.Prelude.{byte_score}
use Rattle.egt_lanes.proofs.Rows.{byte_scores, byte_scores_at}
use Rattle.egt_lanes.proofs.score.byte_scores.Goals as goal

pub returns : goal.returns
returns c s s_in =
    let long = c.fits-entries.0 in
    subst (λ n. get_or (byte_scores n c.args.entries) s 0 ≡ byte_score (get_or c.args.entries s 0)) long (byte_scores_at c.args.entries s (omega arith) c.fits-entries.1)
