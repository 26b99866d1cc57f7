use Rattle.egt_index.proofs.DigitsTaken.{split_pawn}
use Rattle.egt_index.proofs.spelling.split.Goals as goal

pub returns-in-P : goal.returns-in-P
returns-in-P c = split_pawn c.args.number c.args.man c.at.result c.in-P.is c.at.ensures
