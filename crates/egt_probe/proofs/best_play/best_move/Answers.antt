use Rattle.std.proofs.Common.{◌-◌, refl, subst, arith}
use Rattle.egt_probe.specs.Prelude.{other_side, HasValue, chess, mate_by, Outcome, mate_value}
use Rattle.egt_probe.proofs.BestMoves.{best_of_hold, best_is}
use Rattle.egt_probe.proofs.best_play.best_move.Goals as goal

pub returns-in-Draw : goal.returns-in-Draw
returns-in-Draw c = record { best = best_of_hold c.args.position.now c.drawing_move.result c.drawing_move.ensures; loaded = c.in-Ok.ensures.exact.0 refl; missing = tt }

pub returns-else-plies-eq0-clause-best : goal.returns-else-plies-eq0-clause-best
returns-else-plies-eq0-clause-best c =
    let side = c.args.position.now.side in
    let winner = c.in-Decided.winner in
    let plies = c.in-Decided.plies in (
      mate_by side winner plies,
      mate_by (other_side side) winner (plies - 1),
      c.next_move-chess_move.result.1,
      subst (λ (o : Outcome). HasValue chess c.args.position.now (mate_value side o)) c.in-Decided.is c.in-Ok.ensures.verdict.mate,
      best_is side winner (plies - 1) plies (omega arith),
      c.next_move-chess_move.ensures.first,
    )
