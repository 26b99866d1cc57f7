use Rattle.std.proofs.Common.{arith}
use Rattle.egt_entries.proofs.Scoring.{even_score, odd_score}
use Rattle.egt_entries.proofs.outcome.decisive_score.Goals as goal

pub returns-then-entry-eq0 : goal.returns-then-entry-eq0
returns-then-entry-eq0 c = even_score c.args.entry c.requires.long c.requires.short (omega (arith, c.if-entry-eq0.true))

pub returns-else-entry-eq0 : goal.returns-else-entry-eq0
returns-else-entry-eq0 c = odd_score c.args.entry c.requires.long c.requires.short (λ e. omega (arith, c.if-entry-eq0.false, e))
