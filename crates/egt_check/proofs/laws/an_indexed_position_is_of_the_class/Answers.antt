use Rattle.egt_check.proofs.Alike.{indexed_class}
use Rattle.egt_check.proofs.laws.an_indexed_position_is_of_the_class.Goals as goal

pub returns : goal.returns
returns c = λ p k i ok is. indexed_class c.facts.ensures k i p ok is
