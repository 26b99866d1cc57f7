use Rattle.egt_check.specs.Prelude.{shown_by, table_at, beside, both_due, at_end_due}
use Rattle.egt_check.proofs.Showing.{one_after}
use Rattle.egt_check.proofs.judging.due.Goals as goal

pub returns-in-Some : goal.returns-in-Some
returns-in-Some c =
    let one = one_after c.facts.ensures (beside (table_at c.args.library.now) c.args.table.now) c.args.position.now c.side-side.ensures.admissible in
    both_due (shown_by c.args.library.now c.args.table.now) c.args.position.now one c.in-Some.best _ c.in-Some.ensures.some c.entry_before.ensures c.entry_before-in-Some.ensures

pub returns-in-None : goal.returns-in-None
returns-in-None c =
    at_end_due (shown_by c.args.library.now c.args.table.now) c.args.position.now c.entry_at_end-entry.result c.in-None.ensures.none c.entry_at_end-entry.ensures
