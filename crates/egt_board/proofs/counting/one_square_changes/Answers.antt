use Rattle.egt_board.proofs.ManCounts.{count-insert, count-remove}
use Rattle.egt_board.proofs.counting.one_square_changes.Goals as goal

pub returns-clause-put : goal.returns-clause-put
returns-clause-put c = count-insert

pub returns-clause-cleared : goal.returns-clause-cleared
returns-clause-cleared c = count-remove
