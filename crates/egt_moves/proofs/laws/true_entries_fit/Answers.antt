use Rattle.std.specs.Prelude.{IsTrue}
use Rattle.egt_moves.specs.Prelude.{chess}
use Rattle.egt_moves.proofs.DistancesFit as distances
use Rattle.egt_moves.proofs.MateEnds.{chess_ends}
use Rattle.egt_moves.proofs.Fitting as fitting
use Rattle.egt_moves.proofs.NextMoves.{chess_steps}
use Rattle.egt_moves.proofs.laws.true_entries_fit.Goals as goal

pub returns-clause-values : goal.returns-clause-values
returns-clause-values c own e value over = fitting.true_is_judged chess chess_ends chess_steps (λ p. IsTrue (own p)) e value over

pub returns-clause-distances : goal.returns-clause-distances
returns-clause-distances c own e z value distance over zeroing_over =
    distances.true_zeroing_is_judged chess chess_ends chess_steps (λ p. IsTrue (own p)) e z value distance over zeroing_over
