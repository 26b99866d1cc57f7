use Rattle.egt_board.proofs.ManCounts.{men_counted}
use Rattle.egt_board.proofs.counting.listed_men_are_counted.Goals as goal

pub returns : goal.returns
returns c = men_counted
