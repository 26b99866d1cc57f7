use Rattle.std.specs.Prelude.{◌≡◌, ℕ, ◌<◌, get_or}
use Rattle.egt_check.specs.Prelude.{LacksReach, table_at}
use Rattle.egt_check.proofs.checking.first_lacking.Given as goal

-- no child so far lacks the column
abbrev pub invariant-loop-child : goal.invariant-loop-child
invariant-loop-child l = (k d : ℕ) → k < l.child-index → get_or l.child-items k d ≡ d → ¬ LacksReach (table_at l.library d)
