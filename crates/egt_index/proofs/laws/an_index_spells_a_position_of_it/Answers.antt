use Rattle.egt_index.proofs.Exists.{index_spelled}
use Rattle.egt_index.proofs.laws.an_index_spells_a_position_of_it.Goals as goal

pub returns : goal.returns
returns c = index_spelled c.facts.ensures
