use Rattle.std.proofs.Common.{arith}
use Rattle.egt_entries.proofs.Scoring.{draw_score}
use Rattle.egt_entries.proofs.outcome.mate_score.Goals as goal

pub returns-then-entry-eq1 : goal.returns-then-entry-eq1
returns-then-entry-eq1 c = draw_score c.args.entry (omega (arith, c.if-entry-eq1.true))
