use Rattle.std.specs.Prelude.{IsTrue}
use Rattle.egt_moves.specs.Prelude.{chess}
use Rattle.egt_moves.proofs.Nearest.{fitting_reach, true_reach_fits}
use Rattle.egt_moves.proofs.dead.reach_entries_are_true.Goals as goal

pub returns-clause-are_true : goal.returns-clause-are_true
returns-clause-are_true c own e judged = fitting_reach chess (λ p. IsTrue (own p)) e judged

pub returns-clause-fit : goal.returns-clause-fit
returns-clause-fit c own e numbers over = true_reach_fits chess (λ p. IsTrue (own p)) e numbers over
