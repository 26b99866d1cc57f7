use Rattle.egt_index.proofs.IndexOrVoid.{index_or_void}
use Rattle.egt_index.proofs.laws.a_code_is_an_index_or_void.Goals as goal

pub returns : goal.returns
returns c = index_or_void c.facts.ensures
