-- Codes whose entries have no score.
use Rattle.std.specs.Prelude.{◌≡◌, ℕ, ◌+◌, ◌<◌}
use Rattle.egt_index.specs.Prelude.{code_of, kind_digits, number_in, size_of}
use Rattle.egt_table.specs.Prelude.{TableValue}
use Rattle.egt_board.specs.declared.man.Side.{Side}
use Rattle.egt_index.specs.declared.shelf_codes.ShelfMen.{ShelfMen}
use Rattle.egt_table.specs.declared.column.Column.{Column}
use Rattle.egt_check.specs.Worth.{column_score}

pub record IsBlank (t : TableValue) (column : Column) (i : ℕ) : Type 0 where
  pub below : i < size_of t.class
  pub none : column_score t column i ≡ 0

-- so are those of the shelves from this one on, with that side to move: one shelf for each digit of the first man
abbrev pub AreBlank : TableValue → Column → ShelfMen → (first : ℕ) → Side → Type 0
AreBlank t column men first side = (x y : ℕ) → x < kind_digits men.first.kind → y < kind_digits men.last.kind → IsBlank t column (code_of t.class (number_in t.class (first + x) side y))
