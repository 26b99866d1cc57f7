use Rattle.std.specs.Prelude.{◌≡◌, ℕ, ◌<◌, ◌+◌, ◌*◌, ◌/◌, ◌%◌, List, length}
use Rattle.egt_lanes.specs.Prelude.{at}
use Rattle.egt_lanes.proofs.block.interleaved.Given as goal

-- two rows a time are written
pub record Interleaved (out from : List (List ℕ)) (i : ℕ) : Type 0 where
  pub long : length out ≡ 64
  pub done : (a b : ℕ) → a < 2 * i → b < 64 → at out a b ≡ at from (a / 2 + 32 * (b % 2)) (32 * (a % 2) + b / 2)

abbrev pub invariant-loop-i : goal.invariant-loop-i
invariant-loop-i l = Interleaved l.out l.from l.i
