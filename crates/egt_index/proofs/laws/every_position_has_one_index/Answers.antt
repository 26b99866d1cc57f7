use Rattle.egt_index.proofs.Exists.{index_exists, index_below, one_index}
use Rattle.egt_index.proofs.laws.every_position_has_one_index.Goals as goal

pub returns-clause-some : goal.returns-clause-some
returns-clause-some c = index_exists c.facts.ensures

pub returns-clause-one : goal.returns-clause-one
returns-clause-one c = one_index c.facts.ensures

pub returns-clause-below : goal.returns-clause-below
returns-clause-below c = index_below
