use Rattle.egt_check.proofs.Alike.{spelled_alike}
use Rattle.egt_check.proofs.laws.a_position_plays_as_its_index_spells.Goals as goal

pub returns : goal.returns
returns c = λ p q k i ok is spells. spelled_alike c.facts.ensures c.codes_spell_one_position.ensures k i p q ok is spells
