use Rattle.egt_index.proofs.ImageCodes.{no_pawns}
use Rattle.egt_index.proofs.laws.a_class_without_pawns_has_none.Goals as goal

pub returns : goal.returns
returns c = no_pawns
