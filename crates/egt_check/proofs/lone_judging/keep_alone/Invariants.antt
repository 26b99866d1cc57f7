use Rattle.std.specs.Prelude.{◌≡◌, ℕ, ◌+◌, ◌*◌, ◌<◌}
use Rattle.egt_check.specs.Prelude.{bit_at, Has, kind_digits, kind_less, KeepsCode}
use Rattle.egt_check.proofs.lone_judging.keep_alone.Given as goal

-- the squares that are no longer left
abbrev pub invariant-loop-square : goal.invariant-loop-square
invariant-loop-square l = (digit : ℕ) → digit < kind_digits l.three.men.last.kind → Has l.fn.squares (digit + kind_less l.three.men.last.kind) → bit_at l.rest.bits (digit + kind_less l.three.men.last.kind) ≡ 0 → KeepsCode l.three (l.first + 2 * digit)

abbrev pub decreases-loop-square : goal.decreases-loop-square
decreases-loop-square l = l.rest.bits
