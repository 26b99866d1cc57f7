use Rattle.std.specs.Prelude.{◌≤◌}
use Rattle.egt_check.specs.Prelude.{Mate, IsFirstBad, KeepsBelow, table_at, beside}
use Rattle.egt_check.proofs.checking.judge_run.Given as goal

abbrev pub invariant-loop-index : goal.invariant-loop-index
invariant-loop-index l = record {
  within : l.index ≤ l.end;
  mate : KeepsBelow (beside (table_at l.library) l.table) l.table Mate l.index;
  zeroing : IsFirstBad (beside (table_at l.library) l.table) l.table l.index l.bad;
}
