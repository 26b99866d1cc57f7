use Rattle.std.proofs.Common.{arith}
use Rattle.egt_entries.proofs.Scoring.{told_decisive}
use Rattle.egt_entries.proofs.outcome.is_decisive.Goals as goal

pub returns-then-entry-gt2-clause-said : goal.returns-then-entry-gt2-clause-said
returns-then-entry-gt2-clause-said c = told_decisive c.args.entry (omega (arith, c.if-entry-gt2.true))
