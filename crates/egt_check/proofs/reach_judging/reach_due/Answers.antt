use Rattle.egt_check.specs.Prelude.{ShowsReachOf, table_at, beside}
use Rattle.egt_check.proofs.NearestStep.{least_reach_due, no_reach_due, stands_unmated}
use Rattle.egt_check.proofs.reach_judging.reach_due.Goals as goal

pub returns-in-Some : goal.returns-in-Some
returns-in-Some c =
    let unmated = stands_unmated c.args.position.now c.standing.result c.standing.ensures c.in_default.not-Checkmate in
    least_reach_due (ShowsReachOf (beside (table_at c.args.library.now) c.args.table.now)) c.args.position.now unmated c.in-Some.plies c.in-Some.ensures.some.1

pub returns-in-None : goal.returns-in-None
returns-in-None c =
    let unmated = stands_unmated c.args.position.now c.standing.result c.standing.ensures c.in_default.not-Checkmate in
    no_reach_due (ShowsReachOf (beside (table_at c.args.library.now) c.args.table.now)) c.args.position.now unmated c.in-None.ensures.none
