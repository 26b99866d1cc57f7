use Rattle.std.specs.Prelude.{◌≡◌, take}
use Rattle.egt_table.specs.Prelude.{flat_map, Appends, column_bytes, columns_of}
use Rattle.egt_table.proofs.table.Table.write.Given as goal

abbrev pub invariant-loop-column : goal.invariant-loop-column
invariant-loop-column g l = record {
  bytes : Appends (g.S.Sink.written l.initial.sink) (g.S.Sink.written l.sink) (flat_map (column_bytes l.self) (take l.column-index (columns_of l.self)));
  failures : g.S.Sink.failures l.sink ≡ g.S.Sink.failures l.initial.sink;
}
