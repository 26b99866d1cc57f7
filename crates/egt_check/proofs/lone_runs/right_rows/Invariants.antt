use Rattle.std.specs.Prelude.{◌≡◌, ℕ, ◌*◌, true, false, get_or}
use Rattle.egt_check.specs.Prelude.{kind_digits, IsJudgedRow}
use Rattle.egt_check.proofs.lone_runs.right_rows.Given as goal

-- the runs that are marked so far are right
abbrev pub invariant-loop-kings : goal.invariant-loop-kings
invariant-loop-kings l = (run : ℕ) → get_or l.right run false ≡ true → IsJudgedRow l.three (run * (2 * kind_digits l.three.men.last.kind)) l.side
