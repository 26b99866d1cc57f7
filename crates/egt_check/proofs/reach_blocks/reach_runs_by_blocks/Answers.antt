use Rattle.std.proofs.Common.{IfSome, subst}
use Rattle.egt_check.specs.Prelude.{TableValue, AreRuns, KeepsBelow, Metric, Tables, TellsVoids, beside, size_of, table_at}
use Rattle.egt_check.specs.Prelude.{Mate, Reach}
use Rattle.egt_entries.specs.declared.rule.Rule.TheVariants as rules
use Rattle.egt_check.proofs.reach_blocks.reach_runs_by_blocks.Goals as goal

-- by the rule of void mate entries
voids : (tables : Tables) (t : TableValue) → ((metric : Metric) → KeepsBelow tables t metric (size_of t.class)) → TellsVoids t
voids tables t values i below = let kept = values Mate i below rules.Void in record { void = kept.0; index = λ some void. some (kept.1 void) }

pub runs_by_rows-requires-clause-voids : goal.runs_by_rows-requires-clause-voids
runs_by_rows-requires-clause-voids c = λ reach. voids (beside (table_at c.args.library.now) c.args.table.now) c.args.table.now c.requires.values

pub tells_reach_bytes-requires-clause-voids : goal.tells_reach_bytes-requires-clause-voids
tells_reach_bytes-requires-clause-voids c = voids (beside (table_at c.args.library.now) c.args.table.now) c.args.table.now c.requires.values

pub returns : goal.returns
returns c =
    let tables = beside (table_at c.args.library.now) c.args.table.now in
    let four = c.in_ok-four.ensures in
    subst (λ (t : TableValue). IfSome c.right_runs.result (AreRuns Reach tables t)) four.own (c.right_runs.ensures tables four.tables)
