use Rattle.egt_moves.proofs.SettledMoves.{same_leads, same_checkmate}
use Rattle.egt_moves.proofs.laws.settling_keeps_steps.Goals as goal

pub returns-clause-leads : goal.returns-clause-leads
returns-clause-leads c = same_leads

pub returns-clause-checkmate : goal.returns-clause-checkmate
returns-clause-checkmate c = same_checkmate
