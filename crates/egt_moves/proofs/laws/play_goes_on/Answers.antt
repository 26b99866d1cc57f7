use Rattle.egt_moves.specs.Chess.{chess}
use Rattle.egt_moves.proofs.Lines as lines
use Rattle.egt_moves.proofs.laws.play_goes_on.Goals as goal

pub returns-clause-win : goal.returns-clause-win
returns-clause-win c = lines.win_goes_on chess

pub returns-clause-loss : goal.returns-clause-loss
returns-clause-loss c = lines.loss_goes_on chess

pub returns-clause-no_later : goal.returns-clause-no_later
returns-clause-no_later c = lines.loss_goes_down chess
