-- The code of a lane of a shelf.
use Rattle.std.proofs.Common.{◌≡◌, ◌≢◌, ℕ, ◌+◌, ◌*◌, ◌<◌, ◌≤◌, Bool, arith, subst}
use Rattle.egt_check.specs.Prelude.{side_number, Kind, Side, code_of, places, kind_digits, kind_less, IsShelfOf}
use Rattle.egt_check.specs.Prelude.{IsWithin, number_in, size_of, TellsMen, ShelfMen, TableValue, Column, Part, IsBlank}
use Rattle.egt_check.specs.Prelude.{men_on, stand_on, column_of, IsRightLane, IsRightAtOf, column_score, side_few}

-- a code of a shelf within is below the size
row_below : (kind : Kind) (shelf first digit size : ℕ) → first < 2 → digit < kind_digits kind → (shelf + 1) * (2 * kind_digits kind) ≤ size → shelf * (2 * kind_digits kind) + first + 2 * digit < size
row_below kind shelf first digit size few below ends = grind arith

module _ (targeted : Bool) (t : TableValue) (men : ShelfMen) (on shelf : ℕ) (side : Side) (is : IsShelfOf targeted t.class shelf (men_on men on)) (within : IsWithin t.class shelf)
    (coded : (n : ℕ) → n < size_of t.class → code_of t.class n < size_of t.class) (y : ℕ) (y_in : y < kind_digits men.last.kind) where
  abbrev pub number : ℕ
  number = number_in t.class shelf side y

  abbrev pub square : ℕ
  square = y + kind_less men.last.kind

  below : number < size_of t.class
  below = grind (arith, places, kind_digits, side_number, size_of, row_below, side_few)

  told : TellsMen targeted t.class (code_of t.class number) (stand_on men on square) side
  told = subst (λ (b : Bool). TellsMen b t.class (code_of t.class number) (stand_on men on square) side) is.1 (is.0.tells side y y_in)

  pub right_lane : (part : Part) (score zeroing : ℕ) → (column_score t (column_of part) (code_of t.class number) ≢ 0 → IsRightAtOf part t (code_of t.class number) score zeroing) → IsRightLane part targeted t men side on square (code_of t.class number) score zeroing
  right_lane part score zeroing right = record { below = coded number below; tells = told; right = right }

  pub blank_lane : (column : Column) → column_score t column (code_of t.class number) ≡ 0 → IsBlank t column (code_of t.class number)
  blank_lane column none = record { below = coded number below; none = none }
