use Rattle.egt_fen.proofs.Round.{written_spells}
use Rattle.egt_fen.proofs.laws.written_is_read.Goals as goal

pub returns : goal.returns
returns c = written_spells
