use Rattle.std.proofs.Common.{IfSome, subst}
use Rattle.egt_check.specs.Prelude.{TableValue, AreRuns, beside, table_at, Values}
use Rattle.egt_check.proofs.table_judging.runs_by_blocks.Goals as goal

pub returns : goal.returns
returns c =
    let tables = beside (table_at c.args.library.now) c.args.table.now in
    let four = c.in_ok-four.ensures in
    subst (λ (t : TableValue). IfSome c.right_runs.result (AreRuns Values tables t)) four.own (c.right_runs.ensures tables four.tables)
