use Rattle.std.specs.Prelude.{◌≡◌, ◌++◌, List, ℕ, length}
use Rattle.egt_table.specs.Prelude.{Appends}
use Rattle.egt_table.proofs.transfer.push_all.Given as goal

abbrev pub invariant-loop-rest : goal.invariant-loop-rest
invariant-loop-rest g l = record {
  taken : List ℕ;
  piece : l.piece ≡ taken ++ l.rest;
  bytes : Appends (g.S.Sink.written l.initial.sink) (g.S.Sink.written l.sink) taken;
  failures : g.S.Sink.failures l.sink ≡ g.S.Sink.failures l.initial.sink;
}

abbrev pub decreases-loop-rest : goal.decreases-loop-rest
decreases-loop-rest g l = length l.rest
