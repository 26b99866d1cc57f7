use Rattle.std.specs.Prelude.{◌*◌}
use Rattle.egt_check.specs.Prelude.{KeepsReachBelow, table_at, beside}
use Rattle.egt_check.proofs.checking.first_bad_reach.Given as goal

abbrev pub invariant-loop-run : goal.invariant-loop-run
invariant-loop-run l = KeepsReachBelow (beside (table_at l.library) l.table) l.table (l.run * l.runs.len)
