use Rattle.egt_class.proofs.OneClass.{settled_class}
use Rattle.egt_class.proofs.laws.settling_keeps_the_class.Goals as goal

pub returns : goal.returns
returns c = settled_class
