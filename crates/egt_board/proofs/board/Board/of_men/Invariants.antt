use Rattle.egt_board.proofs.Lists.{Laid}
use Rattle.egt_board.proofs.board.Board.of_men.Given as goal

abbrev pub invariant-loop-man : goal.invariant-loop-man
invariant-loop-man l = Laid l.board l.men l.man-index
