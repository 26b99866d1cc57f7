use Rattle.egt_moves.specs.Chess.{chess}
use Rattle.egt_moves.proofs.Nearest as reaching
use Rattle.egt_moves.proofs.dead.one_reach.Goals as goal

pub returns : goal.returns
returns c = reaching.one_reach chess
