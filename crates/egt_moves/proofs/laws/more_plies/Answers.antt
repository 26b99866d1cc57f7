use Rattle.egt_moves.specs.Chess.{chess}
use Rattle.egt_moves.proofs.Bounds as bounds
use Rattle.egt_moves.proofs.laws.more_plies.Goals as goal

pub returns-clause-mated : goal.returns-clause-mated
returns-clause-mated c = bounds.mated_more chess

pub returns-clause-mates : goal.returns-clause-mates
returns-clause-mates c = bounds.mates_more chess

pub returns-clause-avoids : goal.returns-clause-avoids
returns-clause-avoids c = bounds.avoids_less chess

pub returns-clause-cannot : goal.returns-clause-cannot
returns-clause-cannot c = bounds.cannot_less chess
