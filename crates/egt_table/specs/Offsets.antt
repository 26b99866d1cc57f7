-- Where the numbers of a table's file stand.
use Rattle.std.specs.Prelude.{◌≡◌, ℕ, ◌+◌, ◌*◌, ◌<◌, List, length, drop, slice_get, slice_index, Some}
use Rattle.byteorder.specs.Endian.{little_number}
use Rattle.egt_class.specs.Size.{size_of}
use Rattle.egt_table.specs.declared.column.Column.{Column}
use Rattle.egt_table.specs.File.{header_length, layout, magic, version_of}
use Rattle.egt_table.specs.Table.{HasColumn, TableValue, columns_of, entries_of}

-- the number of so many bytes that stands at the offset
abbrev pub number_at : (width offset : ℕ) → List ℕ → ℕ
number_at width offset bytes = little_number width (drop offset bytes)

-- each entry of the columns that are there has room in two bytes
abbrev pub EntriesFit : TableValue → Type 0
EntriesFit t = (column : Column) → HasColumn column t → (i : ℕ) → slice_index (entries_of column t) i < 65536

abbrev pub HeaderStands : TableValue → List ℕ → Type 0
HeaderStands t bytes =
    (number_at 4 0 bytes ≡ magic)
    × (number_at 2 4 bytes ≡ version_of t.reach)
    × (number_at 2 6 bytes ≡ layout)
    × (number_at 2 8 bytes ≡ t.class)
    × (number_at 2 10 bytes ≡ length (columns_of t))
    × (number_at 4 12 bytes ≡ size_of t.class)

-- the entries of the k-th column, from 0, follow those of the columns before it
abbrev pub EntriesStand : TableValue → List ℕ → Type 0
EntriesStand t bytes =
    (k i : ℕ) (column : Column) → slice_get (columns_of t) k ≡ Some column → i < size_of t.class
    → number_at 2 (header_length + 2 * (k * size_of t.class + i)) bytes ≡ slice_index (entries_of column t) i
