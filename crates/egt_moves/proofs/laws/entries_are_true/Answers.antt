use Rattle.std.specs.Prelude.{IsTrue}
use Rattle.egt_moves.specs.Prelude.{chess}
use Rattle.egt_moves.proofs.Fitting as fitting
use Rattle.egt_moves.proofs.DistancesFit as distances
use Rattle.egt_moves.proofs.laws.entries_are_true.Goals as goal

pub returns-clause-values : goal.returns-clause-values
returns-clause-values c own e judged = fitting.fitting_is_true chess (λ p. IsTrue (own p)) e judged

pub returns-clause-distances : goal.returns-clause-distances
returns-clause-distances c own e z judged zeroing = distances.fitting_zeroing_is_true chess (λ p. IsTrue (own p)) e z judged zeroing
