use Rattle.std.specs.Prelude.{◌*◌}
use Rattle.egt_check.specs.Prelude.{Mate, IsFirstBad, KeepsBelow, table_at, beside}
use Rattle.egt_check.proofs.checking.judge_table.Given as goal

abbrev pub invariant-loop-run : goal.invariant-loop-run
invariant-loop-run l = record {
  mate : KeepsBelow (beside (table_at l.library) l.table) l.table Mate (l.run * l.runs.len);
  zeroing : IsFirstBad (beside (table_at l.library) l.table) l.table (l.run * l.runs.len) l.bad;
}
