use Rattle.std.proofs.Common.{◌≡◌, ◌<◌, ℕ, ◌+◌, suc, List, [], ◌∷◌, ◌++◌, get_or, length, take, drop, refl, sym, ap}
use Rattle.std.proofs.Common.{◌∙◌, drop-cons}
use Rattle.egt_probe.specs.Prelude.{take-append-drop, take_more, err_from_is_err_and, loaded_in}
use Rattle.egt_probe.proofs.Answered.{advanced_none, advanced_more, stopped_more}
use Rattle.egt_probe.proofs.answering.take_piece.Goals as goal

-- the piece is what was taken, the byte, and what comes behind
parts : (piece : List ℕ) (n : ℕ) → n < length piece → piece ≡ take n piece ++ ((get_or piece n 0 ∷ []) ++ drop (suc n) piece)
parts piece n inside = sym (take-append-drop n piece) ∙ ap (λ (t : List ℕ). take n piece ++ t) (drop-cons piece n 0 inside)

pub loop-byte-init : goal.loop-byte-init
loop-byte-init g c = record {
  taken = λ line holds. advanced_none (loaded_in c.args.library.now) line c.args.kept.now (g.K.Sink.written c.args.sink.now) holds;
  failures = refl;
}

pub returns-in_err-take_byte-clause-fault : goal.returns-in_err-take_byte-clause-fault
returns-in_err-take_byte-clause-fault g c =
    let piece = c.args.piece.now in
    let n = c.loop-byte.byte-index in
    let p = err_from_is_err_and c.from_residual.result c.from_residual.ensures.1 in
    let fault = c.in_err-take_byte.field-0.0 in
    rw (p.1, p.2) (λ line holds.
    let before = c.loop-byte.invariant.taken line holds in
    stopped_more (loaded_in c.args.library.now) fault line (take n piece) (get_or piece n 0 ∷ []) (drop (suc n) piece) piece c.loop-byte.kept
    (g.K.Sink.written c.args.sink.now) (g.K.Sink.written c.loop-byte.sink) (g.K.Sink.written c.take_byte.new.sink) before (c.in_err-take_byte.ensures.fault before.next before.holds) (parts piece n c.loop-byte-test.true))

pub loop-byte-preserved : goal.loop-byte-preserved
loop-byte-preserved g c =
    let piece = c.args.piece.now in
    let n = c.loop-byte.byte-index in
    record {
      taken = λ line holds.
          let before = c.loop-byte.invariant.taken line holds in
          advanced_more (loaded_in c.args.library.now) line (take n piece) (get_or piece n 0 ∷ []) (take (n + 1) piece) c.loop-byte.kept c.take_byte.new.kept
          (g.K.Sink.written c.args.sink.now) (g.K.Sink.written c.loop-byte.sink) (g.K.Sink.written c.take_byte.new.sink) before (c.in_ok-take_byte.ensures.taken before.next before.holds) (take_more piece n 0 c.loop-byte-test.true);
      failures = c.in_ok-take_byte.ensures.failures ∙ c.loop-byte.invariant.failures;
    }
