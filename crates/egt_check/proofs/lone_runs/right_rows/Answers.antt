use Rattle.egt_check.proofs.RunsKept.{unmarked}
use Rattle.egt_check.proofs.lone_runs.right_rows.Goals as goal

pub loop-kings-init : goal.loop-kings-init
loop-kings-init c = λ run marked. absurd (unmarked 2048 run marked)
