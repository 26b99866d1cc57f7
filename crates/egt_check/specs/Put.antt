-- Entries that are put by their scores.
use Rattle.std.specs.Prelude.{◌≡◌, ◌≢◌, ℕ, ◌+◌, ◌<◌, Bool, true, false, List, slice_index}
use Rattle.egt_index.specs.Prelude.{Has, code_of, kind_digits, kind_less, number_in}
use Rattle.egt_table.specs.Prelude.{TableValue}
use Rattle.egt_board.specs.declared.man.Side.{Side}
use Rattle.egt_board.specs.declared.square_set.SquareSet.{SquareSet}
use Rattle.egt_index.specs.declared.shelf_codes.ShelfMen.{ShelfMen}
use Rattle.egt_check.specs.Found.{IsPutIn, IsToldAt}
use Rattle.egt_check.specs.Parts.{column_of}
use Rattle.egt_check.specs.ScoreRows.{IsLaneIn}
use Rattle.egt_check.specs.Worth.{column_score}
use Rattle.egt_check.specs.declared.part.Part.{Part}

-- entries of the part with these scores were put at the shelf's codes with that side to move and the last man on one of these squares; or, where the
-- result is false, nothing was
pub record IsPut (part : Part) (men : ShelfMen) (shelf : ℕ) (side : Side) (lanes : SquareSet) (scores clocks : List ℕ) (old new : TableValue) (result : Bool) : Type 0 where
  pub put : IsPutIn part (IsLaneIn old.class men shelf side lanes) old new
  pub kept : result ≡ false → new ≡ old
  pub indexes : result ≡ true → (digit : ℕ) → digit < kind_digits men.last.kind → Has lanes (digit + kind_less men.last.kind)
      → column_score old (column_of part) (code_of old.class (number_in old.class shelf side digit)) ≢ 0
  pub told : result ≡ true → (digit : ℕ) → digit < kind_digits men.last.kind → Has lanes (digit + kind_less men.last.kind)
      → IsToldAt part new (code_of old.class (number_in old.class shelf side digit)) (slice_index scores (digit + kind_less men.last.kind)) (slice_index clocks (digit + kind_less men.last.kind))
