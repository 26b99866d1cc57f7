use Rattle.egt_board.proofs.Turns.{turned_made, turned_once, turned_set}
use Rattle.egt_board.proofs.laws.turns_make_one.Goals as goal

pub returns-clause-made : goal.returns-clause-made
returns-clause-made c = λ n flipped p q ok. turned_made n flipped p q ok.on_board

pub returns-clause-one : goal.returns-clause-one
returns-clause-one c = turned_once

pub returns-clause-set : goal.returns-clause-set
returns-clause-set c = λ n flipped p q ok. turned_set n flipped p q ok.on_board
