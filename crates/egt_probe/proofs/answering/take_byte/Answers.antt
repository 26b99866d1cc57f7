use Rattle.egt_probe.specs.Prelude.{err_from_is_err_and, loaded_in}
use Rattle.egt_probe.proofs.Answered.{advanced_on, advanced_fed, stopped_fed}
use Rattle.egt_probe.proofs.answering.take_byte.Goals as goal

pub returns-then-byte-ne10-clause-taken : goal.returns-then-byte-ne10-clause-taken
returns-then-byte-ne10-clause-taken g c line holds =
    advanced_on (loaded_in c.args.library.now) line c.args.byte c.add.new.self (g.K.Sink.written c.args.sink.now) c.if-byte-ne10.true (c.add.ensures line holds)

pub returns-clause-taken : goal.returns-clause-taken
returns-clause-taken g c line holds =
    advanced_fed (loaded_in c.args.library.now) line c.args.byte c.clear.new.self (g.K.Sink.written c.args.sink.now) (g.K.Sink.written c.push_report.new.sink) c.if-byte-ne10.false c.clear.ensures (c.in_ok-push_report.ensures.reported line holds)

pub returns-in_err-push_report-clause-fault : goal.returns-in_err-push_report-clause-fault
returns-in_err-push_report-clause-fault g c =
    let p = err_from_is_err_and c.from_residual.result c.from_residual.ensures.1 in
    let fault = c.in_err-push_report.field-0.0 in
    rw (p.1, p.2) (λ line holds. stopped_fed (loaded_in c.args.library.now) fault line c.args.byte (g.K.Sink.written c.args.sink.now) (g.K.Sink.written c.push_report.new.sink) c.if-byte-ne10.false (c.in_err-push_report.ensures.fault line holds))
