use Rattle.egt_moves.specs.Chess.{chess}
use Rattle.egt_moves.proofs.MateEnds.{chess_ends}
use Rattle.egt_moves.proofs.Halves as halves
use Rattle.egt_moves.proofs.NextMoves.{chess_steps}
use Rattle.egt_moves.proofs.Searching as searching
use Rattle.egt_moves.proofs.laws.one_answer.Goals as goal

pub returns-clause-some : goal.returns-clause-some
returns-clause-some c = halves.some_answer chess chess_steps

pub returns-clause-one : goal.returns-clause-one
returns-clause-one c = searching.one_answer chess chess_ends
