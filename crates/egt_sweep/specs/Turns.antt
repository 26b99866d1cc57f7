-- Kings where turns of a class take them.
use Rattle.std.specs.Prelude.{◌≡◌, ℕ, ◌/◌, ◌%◌, ◌<◌, ◌==◌, ◌⊎◌, true, false, IsTrue}
use Rattle.egt_index.specs.Prelude.{other_side, turned_square, has_equal_sides, material_of, symmetries, has_pawns}
use Rattle.egt_board.specs.declared.man.Side.{Side}

-- a turn takes the kings to these squares in the same colours; or, where both sides have the same men, each to the other's square in exchanged ones
abbrev pub TakesKings : (c turn white black : ℕ) → Side → (w b : ℕ) → Side → Type 0
TakesKings c turn white black side w b s =
    (((turn / 8 == 1) ≡ false) × (w ≡ turned_square (turn % 8) false white) × (b ≡ turned_square (turn % 8) false black) × (s ≡ side))
    ⊎ (IsTrue (has_equal_sides c) × ((turn / 8 == 1) ≡ true) × (w ≡ turned_square (turn % 8) true black) × (b ≡ turned_square (turn % 8) true white) × (s ≡ other_side side))

-- some turn of the class does so
pub record TurnsTo (c white black : ℕ) (side : Side) (w b : ℕ) (s : Side) : Type 0 where
  pub turn : ℕ
  pub below : turn < 16
  pub keeps : turn % 8 < symmetries (has_pawns (material_of c))
  pub takes : TakesKings c turn white black side w b s
