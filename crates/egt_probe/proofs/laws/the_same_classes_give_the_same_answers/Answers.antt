use Rattle.egt_probe.proofs.SameAnswers.{same_verdict, same_line, same_hold}
use Rattle.egt_probe.proofs.laws.the_same_classes_give_the_same_answers.Goals as goal

pub returns-clause-verdict : goal.returns-clause-verdict
returns-clause-verdict c loaded others p one other ok same = same_verdict c.facts.ensures loaded others p ok same one other

pub returns-clause-line : goal.returns-clause-line
returns-clause-line c loaded others p one other ok same = same_line c.facts.ensures loaded others p ok same one other

pub returns-clause-hold : goal.returns-clause-hold
returns-clause-hold c loaded others p one other ok same = same_hold c.facts.ensures loaded others p ok same one other
