use Rattle.std.proofs.Common.{◌∙◌}
use Rattle.egt_probe.specs.Prelude.{err_from_is_err_and, loaded_in}
use Rattle.egt_probe.proofs.Answered.{wrote_one, stopped_within}
use Rattle.egt_probe.proofs.answering.push_report.Goals as goal

pub returns-clause-reported : goal.returns-clause-reported
returns-clause-reported g c line holds =
    let told = c.in_ok-text.ensures line holds in
    wrote_one (loaded_in c.args.library.now) line told.0 c.deref.result.now (g.K.Sink.written c.args.sink.now) (g.K.Sink.written c.push_all.new.sink) told.1 (c.deref.ensures.value ∙ told.2) c.in_ok-push_all.ensures.bytes

pub returns-in_err-push_all-clause-fault : goal.returns-in_err-push_all-clause-fault
returns-in_err-push_all-clause-fault g c =
    let p = err_from_is_err_and c.from_residual-in_err-push_all.result c.from_residual-in_err-push_all.ensures.1 in
    rw (p.1, p.2) (λ line holds.
    let told = c.in_ok-text.ensures line holds in
    stopped_within (loaded_in c.args.library.now) line told.0 c.deref.result.now (g.K.Sink.written c.args.sink.now) (g.K.Sink.written c.push_all.new.sink) told.1 (c.deref.ensures.value ∙ told.2) c.in_err-push_all.ensures.front)
