use Rattle.std.specs.Prelude.{◌≤◌}
use Rattle.egt_check.specs.Prelude.{KeepsReachBelow, table_at, beside}
use Rattle.egt_check.proofs.checking.first_bad_reach_in.Given as goal

abbrev pub invariant-loop-index : goal.invariant-loop-index
invariant-loop-index l = record {
  within : l.index ≤ l.end;
  reach : KeepsReachBelow (beside (table_at l.library) l.table) l.table l.index;
}
