-- The codes of a class with one man beside the kings, by the squares of the kings and the side to move.
use Rattle.std.proofs.Common.{◌≡◌, ◌∙◌, ℕ, ◌+◌, ◌-◌, ◌*◌, ◌/◌, ◌%◌, ◌<◌, ◌≤◌, Bool, false, List, slice_index, arith, inl, inr}
use Rattle.std.proofs.Common.{subst, sym}
use Rattle.egt_check.specs.Prelude.{cases_eq, bit_at, side_number, Side, White, Black, IsLoneRow, ShelfMen, Stand, TellsMen}
use Rattle.egt_check.specs.Prelude.{stand_alone, kind_digits, kind_less, IsRaised, TableValue, Column, column_score}
use Rattle.egt_check.proofs.Marks.{mark, mark_none}
use Rattle.egt_check.proofs.RowJudged.{raised_alone}

-- those of a run are those of both rows
pub run_keeps : (Right : ℕ → Type 0) (first digits i : ℕ) → ((side : Side) (digit : ℕ) → digit < digits → Right (first + side_number side + 2 * digit)) → first ≤ i → i < first + 2 * digits → Right i
run_keeps Right first digits i rows from under = elim (cases_eq ((i - first) % 2) 0) [
  | inl even ↦ let is : first + 0 + 2 * ((i - first) / 2) ≡ i = omega (arith, even, from) in subst Right is (rows White ((i - first) / 2) (omega (arith, from, under)))
  | inr odd ↦ let is : first + 1 + 2 * ((i - first) / 2) ≡ i = omega (arith, odd, from) in subst Right is (rows Black ((i - first) / 2) (omega (arith, from, under)))
]

module _ (t : TableValue) (men : ShelfMen) (first : ℕ) (side : Side) (is : IsLoneRow t.class first men.white men.black men.last)
    (one : (targeted : Bool) (c x y : ℕ) (stand : Stand) (side : Side) → TellsMen targeted c x stand side → TellsMen targeted c y stand side → x ≡ y) (column : Column) (row : List ℕ)
    (read : (s : ℕ) → s < 64 → IsRaised 0 (λ code. TellsMen false t.class code (stand_alone men s) side) (column_score t column) (slice_index row s)) (digit : ℕ) (below : digit < kind_digits men.last.kind) where
  abbrev pub square : ℕ
  square = digit + kind_less men.last.kind

  abbrev pub code : ℕ
  code = first + side_number side + 2 * digit

  -- a lane of the row is the score at one code
  pub lane_of : slice_index row square ≡ column_score t column code
  lane_of = grind (arith, raised_alone, stand_alone, column_score)

  pub none_there : (lanes : ℕ) → bit_at lanes square ≡ mark (slice_index row square) → bit_at lanes square ≡ 0 → column_score t column code ≡ 0
  none_there lanes marked none = sym lane_of ∙ mark_none (slice_index row square) (sym marked ∙ none)
