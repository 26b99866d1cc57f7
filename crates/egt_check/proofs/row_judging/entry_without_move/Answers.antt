use Rattle.std.proofs.Common.{refl, inr}
use Rattle.egt_check.proofs.row_judging.entry_without_move.Goals as goal

pub returns-in-Stalemate : goal.returns-in-Stalemate
returns-in-Stalemate c =
    let stale = c.in-Stalemate.ensures in
    inr (((λ q step. stale.stuck step.0 (q, step.1)), λ mate. stale.quiet mate.check), refl)
