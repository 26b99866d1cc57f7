-- A table: a class and its columns, each with one entry a code. An entry of the columns of mates and of zeroing moves is 0 for a code that
-- spells no position, 1 for a draw, 2 + 2n for a win and 3 + 2n for a loss in n plies. The column of the nearest mates may be there too: an
-- entry of it is 0 likewise, 1 for a dead position and 2 + n where n plies of both sides lead to a checkmate.
use Rattle.std.specs.Prelude.{◌≡◌, ℕ, ◌<◌, List, [], ◌∷◌, length, Option, Some, None, IsSome}
use Rattle.egt_class.specs.Size.{size_of}
use Rattle.egt_table.specs.declared.column.Column.{Column}
use Rattle.egt_table.specs.declared.column.Column.TheVariants.{Mate, Zeroing, Reach}

pub record TableValue : Type 0 where
  pub class : ℕ
  pub mate : List ℕ
  pub zeroing : List ℕ
  pub reach : Option (List ℕ)

-- the entries of a column that may not be there
abbrev pub entries_or_none : Option (List ℕ) → List ℕ
entries_or_none None = []
entries_or_none (Some entries) = entries

abbrev pub entries_of : Column → TableValue → List ℕ
entries_of Mate t = t.mate
entries_of Zeroing t = t.zeroing
entries_of Reach t = entries_or_none t.reach

abbrev pub HasColumn : Column → TableValue → Type 0
HasColumn Mate t = Unit {0}
HasColumn Zeroing t = Unit {0}
HasColumn Reach t = IsSome t.reach

abbrev pub reach_columns : Option (List ℕ) → List Column
reach_columns None = []
reach_columns (Some entries) = Reach ∷ []

-- the columns that are there, in the order of files
abbrev pub columns_of : TableValue → List Column
columns_of t = Mate ∷ Zeroing ∷ reach_columns t.reach

-- each column that is there has one entry a code of the class
pub record IsTable (t : TableValue) : Type 0 where
  pub class_in : t.class < 36
  pub sizes : (column : Column) → HasColumn column t → length (entries_of column t) ≡ size_of t.class
