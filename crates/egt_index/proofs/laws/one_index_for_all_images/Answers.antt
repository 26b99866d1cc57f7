use Rattle.egt_index.proofs.Exists.{alike_same, same_alike}
use Rattle.egt_index.proofs.laws.one_index_for_all_images.Goals as goal

pub returns : goal.returns
returns c = λ p q k i j ok ok' index other. (same_alike c.facts.ensures p q k i j ok ok' index other, alike_same c.facts.ensures p q k i j ok ok' index other)
