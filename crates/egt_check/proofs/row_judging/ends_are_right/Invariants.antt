use Rattle.std.specs.Prelude.{◌≡◌, ℕ, ◌+◌, ◌*◌, ◌<◌}
use Rattle.egt_check.specs.Prelude.{bit_at, Has, code_of, kind_digits, kind_less, IsRightEndOf}
use Rattle.egt_check.proofs.row_judging.ends_are_right.Given as goal

-- the squares that are no longer left
abbrev pub invariant-loop-square : goal.invariant-loop-square
invariant-loop-square l = (digit : ℕ) → digit < kind_digits l.man.kind → Has l.fn.ends (digit + kind_less l.man.kind) → bit_at l.rest.bits (digit + kind_less l.man.kind) ≡ 0 → IsRightEndOf l.part l.table (code_of l.table.class (l.first + 2 * digit))

abbrev pub decreases-loop-square : goal.decreases-loop-square
decreases-loop-square l = l.rest.bits
