use Rattle.std.specs.Prelude.{◌<◌}
use Rattle.egt_commands.specs.Prelude.{table_at, Descends, HasExactly}
use Rattle.egt_commands.proofs.loading.load_below.Given as goal

-- the descendants so far have their tables
abbrev pub invariant-loop-number : goal.invariant-loop-number
invariant-loop-number g l = HasExactly (table_at l.library) (λ d. (d < l.number) × Descends l.fn.class d)
