use Rattle.std.specs.Prelude.{◌≡◌, ◌≤◌, take, count_by}
use Rattle.egt_commands.specs.Prelude.{entries_of, shows}
use Rattle.egt_commands.proofs.tally.count.Given as goal

abbrev pub invariant-loop-index : goal.invariant-loop-index
invariant-loop-index l = record {
  counted : l.count ≡ count_by (shows l.shown) (take l.index (entries_of l.column l.table));
  few : l.count ≤ l.index;
}
