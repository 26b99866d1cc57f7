use Rattle.egt_class.proofs.ClassTests.{names_distinct}
use Rattle.egt_class.proofs.laws.names_tell_classes.Goals as goal

pub returns : goal.returns
returns c = names_distinct
