use Rattle.std.specs.Prelude.{◌≡◌, List, ℕ, take}
use Rattle.egt_probe.specs.Prelude.{Holds, Advanced, loaded_in}
use Rattle.egt_probe.proofs.answering.take_piece.Given as goal

-- the bytes so far were taken
abbrev pub invariant-loop-byte : goal.invariant-loop-byte
invariant-loop-byte g l = record {
  taken : (line : List ℕ) → Holds l.initial.kept line → Advanced (loaded_in l.library) line (take l.byte-index l.piece) l.kept (g.K.Sink.written l.initial.sink) (g.K.Sink.written l.sink);
  failures : g.K.Sink.failures l.sink ≡ g.K.Sink.failures l.initial.sink;
}
