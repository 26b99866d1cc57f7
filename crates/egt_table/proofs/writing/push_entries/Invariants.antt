use Rattle.std.specs.Prelude.{◌≡◌, ◌++◌, List, ℕ, length}
use Rattle.egt_table.specs.Prelude.{Appends, entries_bytes}
use Rattle.egt_table.proofs.writing.push_entries.Given as goal

abbrev pub invariant-loop-rest : goal.invariant-loop-rest
invariant-loop-rest g l = record {
  pushed : List ℕ;
  entries : l.entries ≡ pushed ++ l.rest;
  bytes : Appends (g.S.Sink.written l.initial.sink) (g.S.Sink.written l.sink) (entries_bytes pushed);
  failures : g.S.Sink.failures l.sink ≡ g.S.Sink.failures l.initial.sink;
}

abbrev pub decreases-loop-rest : goal.decreases-loop-rest
decreases-loop-rest g l = length l.rest
