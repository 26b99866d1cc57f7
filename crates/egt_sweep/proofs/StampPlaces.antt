-- Places of stamps, stamps that rise, and the stamps that turns lead to.
use Rattle.std.proofs.Common.{◌≡◌, ℕ, ◌%◌, ◌≤◌, List, slice_index, true, false, IsTrue, arith, inl, inr}
use Rattle.egt_sweep.specs.FillPrelude.{other_side, turned_square, Side, has_equal_sides, material_of, IsTurnWith}
use Rattle.egt_sweep.specs.FillPrelude.{has_pawns, ShelfMen, IsFresh, stamp_place, TurnsTo}

-- what is fresh by later stamps is so by earlier ones
pub stamps_rise : (c : ℕ) (men : ShelfMen) (side : Side) (old new : List ℕ) (looked : ℕ) → ((i : ℕ) → slice_index old i ≤ slice_index new i) → IsFresh c men side new looked → IsFresh c men side old looked
stamps_rise c men side old new looked rise fresh = (
  fresh.0,
  λ w b s reads.
      let later = rise (stamp_place s w b) in
      let within = fresh.1 w b s reads in
      omega (arith, later, within),
)

-- a stamp by its kings and side
stamp_at : (stamps : List ℕ) (looked w b x y : ℕ) (s r : Side) → w ≡ x → b ≡ y → s ≡ r → slice_index stamps (stamp_place r x y) ≤ looked → slice_index stamps (stamp_place s w b) ≤ looked
stamp_at stamps looked w b x y s r same_white same_black same_side within = rw same_white (rw same_black (rw same_side within))

-- where no stamp is later after the turns in the same colours, and none after those that exchange them, none is after a turn of the class
pub none_turned : (c white black : ℕ) (side : Side) (stamps : List ℕ) (looked : ℕ)
    → ((t : ℕ) → IsTurnWith (has_pawns (material_of c)) false t → slice_index stamps (stamp_place side (turned_square (t % 8) false white) (turned_square (t % 8) false black)) ≤ looked)
    → (IsTrue (has_equal_sides c) → (t : ℕ) → IsTurnWith (has_pawns (material_of c)) true t → slice_index stamps (stamp_place (other_side side) (turned_square (t % 8) true black) (turned_square (t % 8) true white)) ≤ looked)
    → (w b : ℕ) (s : Side) → TurnsTo c white black side w b s → slice_index stamps (stamp_place s w b) ≤ looked
none_turned c white black side stamps looked own across w b s to = elim to.takes [
  | inl here ↦ stamp_at stamps looked w b _ _ s side here.1 here.2 here.3 (own to.turn (record { below = to.below; flips_is = here.0; keeps = to.keeps }))
  | inr there ↦ stamp_at stamps looked w b _ _ s (other_side side) there.2 there.3 there.4 (across there.0 to.turn (record { below = to.below; flips_is = there.1; keeps = to.keeps }))
]
