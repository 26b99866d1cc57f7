use Rattle.egt_probe.specs.Prelude.{IfOk-weaker, Refused, Answered}
use Rattle.egt_probe.proofs.reporting.line_report.Goals as goal

pub returns-in-Ok : goal.returns-in-Ok
returns-in-Ok c = IfOk-weaker c.position_report.result _ _ (λ text told. Answered c.in-Ok.fen c.requires c.in-Ok.ensures.spells told) c.position_report.ensures

pub returns-in-Err : goal.returns-in-Err
returns-in-Err c = IfOk-weaker c.refused_text.result _ _ (λ text e. Refused c.in-Err.fault c.requires c.in-Err.ensures.fault e) c.refused_text.ensures
