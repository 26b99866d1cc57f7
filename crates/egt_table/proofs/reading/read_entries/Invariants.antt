use Rattle.std.specs.Prelude.{◌≡◌, ◌≤◌, ◌-◌, length}
use Rattle.egt_table.specs.Prelude.{Consumes, entries_bytes}
use Rattle.egt_table.proofs.reading.read_entries.Given as goal

abbrev pub invariant-pieces : goal.invariant-pieces
invariant-pieces g l = record {
  bound : length l.column.items ≤ l.initial.len;
  bytes : Consumes (g.S.Source.left l.initial.source) (g.S.Source.left l.source) (entries_bytes l.column.items);
  failures : g.S.Source.failures l.source ≡ g.S.Source.failures l.initial.source;
}

abbrev pub decreases-pieces : goal.decreases-pieces
decreases-pieces g l = l.initial.len - length l.column.items
