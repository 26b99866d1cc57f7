use Rattle.egt_index.proofs.Classes.{spells_class}
use Rattle.egt_index.proofs.laws.spelled_positions_are_of_the_class.Goals as goal

pub returns : goal.returns
returns c = spells_class
