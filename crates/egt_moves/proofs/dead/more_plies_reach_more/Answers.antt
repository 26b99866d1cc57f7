use Rattle.egt_moves.specs.Chess.{chess}
use Rattle.egt_moves.proofs.NextMoves.{chess_steps}
use Rattle.egt_moves.proofs.Nearest.{reaches_more, reach_within}
use Rattle.egt_moves.proofs.dead.more_plies_reach_more.Goals as goal

pub returns-clause-more : goal.returns-clause-more
returns-clause-more c = reaches_more chess

pub returns-clause-least : goal.returns-clause-least
returns-clause-least c = reach_within chess chess_steps
