use Rattle.std.specs.Prelude.{◌≡◌, ℕ, ◌<◌, get_or, IfSome}
use Rattle.egt_sweep.specs.FillPrelude.{table_at, IsTrueTable}
use Rattle.egt_sweep.proofs.tables.children_are_true.Given as goal

-- the tables of the children so far are true
abbrev pub invariant-loop-child : goal.invariant-loop-child
invariant-loop-child l = (k d : ℕ) → k < l.child-index → get_or l.child-items k d ≡ d → IfSome (table_at l.library d) (λ t. (t.class ≡ d) × IsTrueTable t)
