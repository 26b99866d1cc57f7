use Rattle.egt_probe.proofs.OneReport.{one_report}
use Rattle.egt_probe.proofs.laws.a_line_has_one_report.Goals as goal

pub returns : goal.returns
returns c = one_report c.facts.ensures
