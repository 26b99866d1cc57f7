use Rattle.egt_moves.proofs.ListedMoves.{moves_of-ordered, moves_of-legal, in_moves_of}
use Rattle.egt_moves.proofs.laws.moves_are_listed.Goals as goal

pub returns-clause-legal : goal.returns-clause-legal
returns-clause-legal c = λ p m ok. (moves_of-legal p m, in_moves_of p m ok)

pub returns-clause-ordered : goal.returns-clause-ordered
returns-clause-ordered c = moves_of-ordered
