use Rattle.egt_moves.proofs.TurnedMoves.{leads_admissible}
use Rattle.egt_moves.proofs.ListedMoves.{leads_played}
use Rattle.egt_moves.proofs.laws.moves_lead_to_one.Goals as goal

pub returns-clause-admissible : goal.returns-clause-admissible
returns-clause-admissible c = λ p q m. leads_admissible p q m

pub returns-clause-played : goal.returns-clause-played
returns-clause-played c = leads_played
