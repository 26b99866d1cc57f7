use Rattle.egt_moves.specs.Chess.{chess}
use Rattle.egt_moves.proofs.Distances as distances
use Rattle.egt_moves.proofs.laws.zeroes_in_time.Goals as goal

pub returns-clause-losing : goal.returns-clause-losing
returns-clause-losing c = distances.mated_zeroes chess

pub returns-clause-winning : goal.returns-clause-winning
returns-clause-winning c = distances.mates_zeroes chess

pub returns-clause-win : goal.returns-clause-win
returns-clause-win c = distances.win_zeroes_within chess

pub returns-clause-loss : goal.returns-clause-loss
returns-clause-loss c = distances.loss_zeroes_within chess
