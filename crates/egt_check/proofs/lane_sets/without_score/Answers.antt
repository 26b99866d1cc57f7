use Rattle.std.proofs.Common.{◌==◌, if◌then◌else◌, ◌∙◌, ap, slice_index}
use Rattle.egt_check.specs.Prelude.{get_or-replicate}
use Rattle.egt_check.proofs.lane_sets.without_score.Goals as goal

pub returns : goal.returns
returns c = λ s s_in. c.unlike.ensures s s_in ∙ ap (λ n. if slice_index c.args.row s == n then 0 else slice_index c.args.row s) (get_or-replicate 64 s c.args.score 0 s_in)
