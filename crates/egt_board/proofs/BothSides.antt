-- The men of the one side are those that are not the other's.
use Rattle.std.proofs.Common.{◌≡◌, ◌↔◌, ◌⊎◌, ℕ, ◌-◌, Some, None, Option, min, arith, refl, inl, inr}
use Rattle.egt_board.specs.Prelude.{bit_at, cases_eq, bit_at-lt, Side, Man, other_side, Placement, Stands, IsFree}
use Rattle.egt_board.specs.Prelude.{IsOccupiedBy, one_man}
use Rattle.std.specs.FinMap as map
use Rattle.egt_board.proofs.Sides.{side_cases, sides_differ}

stands_there : (men : Placement) (t : ℕ) → IsFree men t ⊎ ((man : Man) × Stands men t man)
stands_there men t = of_option (map.get men t) refl
  where
    of_option : (o : Option Man) → map.get men t ≡ o → IsFree men t ⊎ ((man : Man) × Stands men t man)
    of_option None e = inl e
    of_option (Some man) e = inr (man, e)

pub other_held : (men : Placement) (side : Side) (all own enemy t : ℕ) → (bit_at all t ≡ 0) ↔ IsFree men t → (bit_at own t ≡ 1) ↔ IsOccupiedBy men t side
    → bit_at enemy t ≡ min (bit_at all t) (1 - bit_at own t) → (bit_at enemy t ≡ 1) ↔ IsOccupiedBy men t (other_side side)
other_held men side all own enemy t free held is = grind (arith, bit_at, other_side, stands_there, side_cases, cases_eq, sides_differ, one_man, bit_at-lt)
