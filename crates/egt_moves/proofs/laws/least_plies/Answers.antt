use Rattle.egt_moves.specs.Chess.{chess}
use Rattle.egt_moves.proofs.Halves as halves
use Rattle.egt_moves.proofs.NextMoves.{chess_steps}
use Rattle.egt_moves.proofs.laws.least_plies.Goals as goal

pub returns-clause-win : goal.returns-clause-win
returns-clause-win c = halves.win_within chess chess_steps

pub returns-clause-loss : goal.returns-clause-loss
returns-clause-loss c = halves.loss_within chess chess_steps
