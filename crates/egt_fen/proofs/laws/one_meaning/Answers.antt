use Rattle.egt_fen.proofs.Round.{one_meaning}
use Rattle.egt_fen.proofs.laws.one_meaning.Goals as goal

pub returns : goal.returns
returns c = one_meaning
