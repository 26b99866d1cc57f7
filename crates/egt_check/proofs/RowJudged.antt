-- A row of entries, judged by the greatest bytes of the moves.
use Rattle.std.proofs.Common.{◌≡◌, ℕ, ◌+◌, ◌<◌, Bool, arith}
use Rattle.egt_check.specs.Prelude.{Side, code_of, kind_digits, kind_less, IsShelfOf, number_in, stand_with, TellsMen}
use Rattle.egt_check.specs.Prelude.{ShelfMen, Stand, IsRaised, TableValue, Column, column_score}

-- the greatest of one number is that number
pub raised_alone : (In : ℕ → Type 0) (f : ℕ → ℕ) (v t : ℕ) → In t → ((u : ℕ) → In u → u ≡ t) → IsRaised 0 In f v → v ≡ f t
raised_alone In f v t here alone raised = grind arith

module _ (targeted : Bool) (t : TableValue) (column : Column) (men : ShelfMen) (shelf : ℕ) (side : Side) (is : IsShelfOf targeted t.class shelf men)
    (one : (targeted : Bool) (c x y : ℕ) (stand : Stand) (side : Side) → TellsMen targeted c x stand side → TellsMen targeted c y stand side → x ≡ y) where
  abbrev Told : ℕ → ℕ → Type 0
  Told digit code = TellsMen targeted t.class code (stand_with men (digit + kind_less men.last.kind)) side

  -- a lane of the row is the score at one code
  pub lane_is : (digit v : ℕ) → digit < kind_digits men.last.kind → IsRaised 0 (Told digit) (column_score t column) v → v ≡ column_score t column (code_of t.class (number_in t.class shelf side digit))
  lane_is digit v below raised = grind (arith, raised_alone, column_score, code_of)
