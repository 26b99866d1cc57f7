use Rattle.std.specs.Prelude.{◌≡◌, ℕ, ◌<◌}
use Rattle.egt_lanes.specs.Prelude.{at}
use Rattle.egt_lanes.proofs.block.is_blank.Given as goal

-- the rows below i are
abbrev pub invariant-loop-i : goal.invariant-loop-i
invariant-loop-i l = (a b : ℕ) → a < l.i → b < 64 → at l.block a b ≡ 0
