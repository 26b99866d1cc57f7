use Rattle.egt_index.proofs.OnePosition.{spells_once}
use Rattle.egt_index.proofs.laws.codes_spell_one_position.Goals as goal

pub returns : goal.returns
returns c = spells_once
