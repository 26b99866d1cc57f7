use Rattle.std.specs.Prelude.{◌≡◌, ℕ, ◌<◌, get_or, IsSome}
use Rattle.egt_check.specs.Prelude.{table_at}
use Rattle.egt_check.proofs.checking.first_missing.Given as goal

-- the children so far have their tables
abbrev pub invariant-loop-child : goal.invariant-loop-child
invariant-loop-child l = (k d : ℕ) → k < l.child-index → get_or l.child-items k d ≡ d → IsSome (table_at l.library d)
