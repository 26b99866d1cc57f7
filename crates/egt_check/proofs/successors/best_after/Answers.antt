use Rattle.egt_check.specs.Prelude.{shown_by, raised_is}
use Rattle.egt_check.proofs.successors.best_after.Goals as goal

pub returns : goal.returns
returns c = λ metric.
    raised_is (shown_by c.args.library.now c.args.table.now) metric c.args.position.now c.args.chess_move.now c.args.best c.scores-scores.result c.raised.result
    (c.raised.ensures metric) c.requires.legal (c.scores-scores.ensures metric)
