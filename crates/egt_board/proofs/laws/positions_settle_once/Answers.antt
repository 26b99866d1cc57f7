use Rattle.egt_board.proofs.SettledForms.{settles_made, settles_admissible, settles_settled, settles_men}
use Rattle.egt_board.proofs.laws.positions_settle_once.Goals as goal

pub returns-clause-made : goal.returns-clause-made
returns-clause-made c = settles_made

pub returns-clause-admissible : goal.returns-clause-admissible
returns-clause-admissible c = settles_admissible

pub returns-clause-settled : goal.returns-clause-settled
returns-clause-settled c = settles_settled

pub returns-clause-men : goal.returns-clause-men
returns-clause-men c = settles_men
