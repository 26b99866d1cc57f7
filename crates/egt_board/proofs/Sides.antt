-- The two sides, and the kinds of men.
use Rattle.std.proofs.Common.{◌≡◌, ◌⊎◌, ◌<◌, arith}
use Rattle.egt_board.specs.Prelude.{Side, other_side, Kind, kind_number}

pub side_twice : (side : Side) → other_side (other_side side) ≡ side
side_twice side = grind arith

pub side_cases : (s t : Side) → (s ≡ t) ⊎ (s ≡ other_side t)
side_cases s t = grind arith

pub sides_differ : (side : Side) → side ≡ other_side side → ⊥
sides_differ side e = grind arith

pub kind_few : (kind : Kind) → kind_number kind < 6
kind_few kind = grind arith
