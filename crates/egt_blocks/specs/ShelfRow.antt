-- The scores of a shelf's codes, by the last man's square.
use Rattle.std.specs.Prelude.{◌≡◌, ℕ, ◌+◌, ◌<◌, ◌≤◌, ◌⊎◌, List, slice_index}
use Rattle.egt_index.specs.Prelude.{code_of, kind_digits, kind_less, number_in}
use Rattle.egt_board.specs.declared.man.Kind.TheVariants.{P}
use Rattle.egt_board.specs.declared.man.Side.{Side}
use Rattle.egt_index.specs.declared.shelf_codes.ShelfMen.{ShelfMen}

-- those with that side to move, and nothing where a pawn may not stand
pub record IsShelfRow (c : ℕ) (worth : ℕ → ℕ) (men : ShelfMen) (shelf : ℕ) (side : Side) (row : List ℕ) : Type 0 where
  pub digits : (digit : ℕ) → digit < kind_digits men.last.kind → slice_index row (digit + kind_less men.last.kind) ≡ worth (code_of c (number_in c shelf side digit))
  pub edges : men.last.kind ≡ P → (s : ℕ) → s < 64 → (s < 8) ⊎ (56 ≤ s) → slice_index row s ≡ 0
