-- Where the pieces beside the kings go quietly.
use Rattle.std.specs.Prelude.{◌≡◌, ◌≢◌, ℕ}
use Rattle.egt_steps.specs.Prelude.{Reaches, IsClear}
use Rattle.egt_board.specs.declared.man.Kind.TheVariants.{P}
use Rattle.egt_board.specs.declared.man.Side.{Side}
use Rattle.egt_index.specs.declared.shelf_codes.ShelfMen.{ShelfMen}

-- the first man, a piece of that side, from a
abbrev pub IsFirstStep : ShelfMen → Side → (a b t : ℕ) → Type 0
IsFirstStep men side a b t = (men.first.side ≡ side) × (men.first.kind ≢ P) × Reaches (IsClear men b) men.first a t

-- the last man, a piece of that side, from b
abbrev pub IsLastStep : ShelfMen → Side → (a b t : ℕ) → Type 0
IsLastStep men side a b t = (men.last.side ≡ side) × (men.last.kind ≢ P) × Reaches (IsClear men a) men.last b t
