use Rattle.egt_check.proofs.EitherGiven.{either_given}
use Rattle.egt_check.proofs.laws.moves_of_either_kind_give_all.Goals as goal

pub returns : goal.returns
returns c = either_given
