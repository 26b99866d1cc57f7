-- Entries that are due to the greatest scores of all moves.
use Rattle.std.specs.Prelude.{◌≡◌, ◌≢◌, ℕ, ◌+◌, ◌<◌, Bool, true, false}
use Rattle.egt_check.specs.Prelude.{code_of, kind_digits, kind_less, AreMenOf, number_in, TableValue, beside, table_at}
use Rattle.egt_check.specs.Prelude.{AreChildren, AreFourMenTables, AreTablesOf, IsOwnTable, column_of, four_in, tables_in}
use Rattle.egt_check.specs.Prelude.{AreAllScoresOf, IsRightLane}
use Rattle.egt_board.specs.declared.man.Side.{Side}
use Rattle.egt_index.specs.declared.shelf_codes.ShelfMen.{ShelfMen}
use Rattle.egt_check.specs.declared.move_scores.Children.{Children}
use Rattle.egt_check.specs.declared.move_scores.FourMenTables.{FourMenTables}
use Rattle.egt_check.specs.declared.part.Part.{Part}
use Rattle.egt_sweep.specs.declared.filling.Filling.{Filling}

-- the greatest scores of all moves, the class's own table being this one
abbrev pub AreScoresIn : Part → (targeted : Bool) → TableValue → Children → ShelfMen → Side → (a b score zeroing : ℕ) → Type 0
AreScoresIn part targeted t children men side a b score zeroing = (four : FourMenTables) → four.own ≡ t → four.children ≡ children → AreAllScoresOf part targeted four men side a b score zeroing

-- the part's entries of the shelves from this one on, one for each digit of the first man, with that side to move, are due to them
abbrev pub AreDue : Part → (targeted : Bool) → TableValue → Children → ShelfMen → (first : ℕ) → Side → Type 0
AreDue part targeted t children men first side = (x y : ℕ) → x < kind_digits men.first.kind → y < kind_digits men.last.kind → (score zeroing : ℕ)
    × IsRightLane part targeted t men side (x + kind_less men.first.kind) (y + kind_less men.last.kind) (code_of t.class (number_in t.class (first + x) side y)) score zeroing
    × AreScoresIn part targeted t children men side (x + kind_less men.first.kind) (y + kind_less men.last.kind) score zeroing

-- so are those of the shelves `half` further on, of positions with a target, where the class has any
pub record AreAllDue (part : Part) (t : TableValue) (children : Children) (men : ShelfMen) (first half : ℕ) (side : Side) : Type 0 where
  pub plain : AreDue part false t children men first side
  pub targeted : half ≢ 0 → AreDue part true t children men (first + half) side

-- the class has these men beside its kings, and the tables of its children are those that the library has
pub record IsFilling (f : Filling) : Type 0 where
  pub below : f.class < 36
  pub men_of : AreMenOf f.class f.men
  pub children : AreChildren (column_of f.part) f.children f.men
  pub four : (four : FourMenTables) → four.children ≡ f.children → IsOwnTable f.part f.class f.men four.own →
      AreFourMenTables (column_of f.part) four f.men × AreTablesOf (tables_in f.part (beside (table_at f.library.now) four.own)) (four_in f.part four) f.men
