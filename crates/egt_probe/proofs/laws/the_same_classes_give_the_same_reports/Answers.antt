use Rattle.egt_probe.proofs.OneReport.{one_answer}
use Rattle.egt_probe.proofs.laws.the_same_classes_give_the_same_reports.Goals as goal

pub returns : goal.returns
returns c loaded others lines one other same = one_answer c.facts.ensures loaded others same lines one other
