-- The codes to which the last man's steps lead.
use Rattle.std.proofs.Common.{ℕ, ◌+◌, ◌<◌, ◌≤◌, arith}
use Rattle.egt_index.specs.Prelude.{MayStand, Man, kind_less}

pub may_stand : (man : Man) (s : ℕ) → kind_less man.kind ≤ s → s + kind_less man.kind < 64 → MayStand man s
may_stand man s = grind arith
