use Rattle.std.proofs.Common.{◌<◌, List, [], ◌++◌, ℕ, length, take, refl, sym, ap, ◌∙◌, append-nil, arith}
use Rattle.egt_probe.specs.Prelude.{Consumes-nil, Consumes-kept, Consumes-trans, on_ok_weaker, IfErr-weaker}
use Rattle.egt_probe.specs.Prelude.{err_from_is_err_and, Device, loaded_in}
use Rattle.egt_probe.proofs.Answered.{advanced_none, advanced_more, stopped_more, stopped_reading, some_answered, all_answered, last_stopped, nothing_more}
use Rattle.egt_probe.proofs.answering.answer.Goals as goal

pub loop-n-init : goal.loop-n-init
loop-n-init g c = record {
  input = [];
  consumed = Consumes-nil (g.S.Source.left c.args.source.now);
  taken = advanced_none (loaded_in c.args.library.now) [] c.new-kept.result (g.K.Sink.written c.args.sink.now) c.new-kept.ensures;
  source_failures = refl;
  sink_failures = refl;
}

pub returns-in_err-n-clause-fault : goal.returns-in_err-n-clause-fault
returns-in_err-n-clause-fault g c =
    let p = err_from_is_err_and c.from_residual.result c.from_residual.ensures.1 in
    let loaded = loaded_in c.args.library.now in
    let input = c.loop-n.invariant.input in
    let left = g.S.Source.left c.args.source.now in
    let old = g.K.Sink.written c.args.sink.now in
    let new = g.K.Sink.written c.loop-n.sink in
    rw (p.1, p.2) (some_answered loaded Device input left (g.S.Source.left c.pull.new.self) old new (Consumes-kept left (g.S.Source.left c.loop-n.source) (g.S.Source.left c.pull.new.self) input c.loop-n.invariant.consumed c.in_err-n.ensures.bytes)
    (stopped_reading loaded input c.loop-n.kept old new c.loop-n.invariant.taken))

pub returns-then-n-eq0-clause-answered : goal.returns-then-n-eq0-clause-answered
returns-then-n-eq0-clause-answered g c =
    let input = c.loop-n.invariant.input in
    let taken = c.loop-n.invariant.taken in
    let left = g.S.Source.left c.args.source.now in
    let rest = g.S.Source.left c.pull.new.self in
    let room : 0 < length c.pull.new.buffer = omega arith in
    let consumed = nothing_more left (g.S.Source.left c.loop-n.source) rest input c.pull.new.buffer c.in_ok-n.n c.loop-n.invariant.consumed c.in_ok-n.ensures.bytes.0 c.if-n-eq0.true in
    on_ok_weaker c.answer_last.result
    (λ wrote. all_answered (loaded_in c.args.library.now) input c.loop-n.kept left rest (g.K.Sink.written c.args.sink.now) (g.K.Sink.written c.loop-n.sink) (g.K.Sink.written c.answer_last.new.sink) taken (wrote taken.next taken.holds) consumed
    (c.in_ok-n.ensures.bytes.1 c.if-n-eq0.true room))
    c.answer_last.ensures.reported

pub returns-then-n-eq0-clause-fault : goal.returns-then-n-eq0-clause-fault
returns-then-n-eq0-clause-fault g c =
    let input = c.loop-n.invariant.input in
    let taken = c.loop-n.invariant.taken in
    let left = g.S.Source.left c.args.source.now in
    let rest = g.S.Source.left c.pull.new.self in
    let room : 0 < length c.pull.new.buffer = omega arith in
    let consumed = nothing_more left (g.S.Source.left c.loop-n.source) rest input c.pull.new.buffer c.in_ok-n.n c.loop-n.invariant.consumed c.in_ok-n.ensures.bytes.0 c.if-n-eq0.true in
    IfErr-weaker c.answer_last.result _ _
    (λ fault stopped. last_stopped (loaded_in c.args.library.now) fault input c.loop-n.kept left rest (g.K.Sink.written c.args.sink.now) (g.K.Sink.written c.loop-n.sink) (g.K.Sink.written c.answer_last.new.sink) taken (stopped taken.next taken.holds) consumed
    (c.in_ok-n.ensures.bytes.1 c.if-n-eq0.true room))
    c.answer_last.ensures.fault

pub returns-in_err-take_piece-clause-fault : goal.returns-in_err-take_piece-clause-fault
returns-in_err-take_piece-clause-fault g c =
    let p = err_from_is_err_and c.from_residual-in_err-take_piece.result c.from_residual-in_err-take_piece.ensures.1 in
    let fault = c.in_err-take_piece.field-0.0 in
    let loaded = loaded_in c.args.library.now in
    let input = c.loop-n.invariant.input in
    let taken = c.loop-n.invariant.taken in
    let left = g.S.Source.left c.args.source.now in
    let rest = g.S.Source.left c.pull.new.self in
    let old = g.K.Sink.written c.args.sink.now in
    let mid = g.K.Sink.written c.loop-n.sink in
    let new = g.K.Sink.written c.take_piece.new.sink in
    let piece = take c.in_ok-n.n c.pull.new.buffer in
    rw (p.1, p.2) (some_answered loaded fault (input ++ piece) left rest old new (Consumes-trans left (g.S.Source.left c.loop-n.source) rest input piece c.loop-n.invariant.consumed c.in_ok-n.ensures.bytes.0)
    (stopped_more loaded fault [] input piece [] (input ++ piece) c.loop-n.kept old mid new taken (c.in_err-take_piece.ensures.fault taken.next taken.holds) (ap (λ (t : List ℕ). input ++ t) (sym (append-nil piece)))))

pub loop-n-preserved : goal.loop-n-preserved
loop-n-preserved g c =
    let loaded = loaded_in c.args.library.now in
    let input = c.loop-n.invariant.input in
    let taken = c.loop-n.invariant.taken in
    let left = g.S.Source.left c.args.source.now in
    let rest = g.S.Source.left c.pull.new.self in
    let old = g.K.Sink.written c.args.sink.now in
    let mid = g.K.Sink.written c.loop-n.sink in
    let new = g.K.Sink.written c.take_piece.new.sink in
    let piece = take c.in_ok-n.n c.pull.new.buffer in
    record {
      input = input ++ piece;
      consumed = Consumes-trans left (g.S.Source.left c.loop-n.source) rest input piece c.loop-n.invariant.consumed c.in_ok-n.ensures.bytes.0;
      taken = advanced_more loaded [] input piece (input ++ piece) c.loop-n.kept c.take_piece.new.kept old mid new taken (c.in_ok-take_piece.ensures.taken taken.next taken.holds) refl;
      source_failures = c.in_ok-n.ensures.failures ∙ c.loop-n.invariant.source_failures;
      sink_failures = c.in_ok-take_piece.ensures.failures ∙ c.loop-n.invariant.sink_failures;
    }
