use Rattle.std.specs.Prelude.{◌≡◌, List, [], ℕ}
use Rattle.egt_probe.specs.Prelude.{Consumes, Advanced, loaded_in}
use Rattle.egt_probe.proofs.answering.answer.Given as goal

-- what was read so far was taken
abbrev pub invariant-loop-n : goal.invariant-loop-n
invariant-loop-n g l = record {
  input : List ℕ;
  consumed : Consumes (g.S.Source.left l.initial.source) (g.S.Source.left l.source) input;
  taken : Advanced (loaded_in l.library) [] input l.kept (g.K.Sink.written l.initial.sink) (g.K.Sink.written l.sink);
  source_failures : g.S.Source.failures l.source ≡ g.S.Source.failures l.initial.source;
  sink_failures : g.K.Sink.failures l.sink ≡ g.K.Sink.failures l.initial.sink;
}

abbrev pub decreases-loop-n : goal.decreases-loop-n
decreases-loop-n g l = g.S.Source.turns l.source
