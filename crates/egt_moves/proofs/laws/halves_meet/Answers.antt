use Rattle.egt_moves.specs.Chess.{chess}
use Rattle.egt_moves.proofs.Bounds as bounds
use Rattle.egt_moves.proofs.Halves as halves
use Rattle.egt_moves.proofs.NextMoves.{chess_steps}
use Rattle.egt_moves.proofs.laws.halves_meet.Goals as goal

pub returns-clause-mated : goal.returns-clause-mated
returns-clause-mated c = halves.mated_or_avoids chess chess_steps

pub returns-clause-mates : goal.returns-clause-mates
returns-clause-mates c = halves.mates_or_cannot chess chess_steps

pub returns-clause-mated_once : goal.returns-clause-mated_once
returns-clause-mated_once c = bounds.mated_not_avoids chess

pub returns-clause-mates_once : goal.returns-clause-mates_once
returns-clause-mates_once c = bounds.mates_not_cannot chess
