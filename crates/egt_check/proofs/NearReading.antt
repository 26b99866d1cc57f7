-- Tables whose column of the nearest mates is read as a mate column.
use Rattle.std.proofs.Common.{◌≡◌, ℕ, ◌*◌, ◌-◌, ◌%◌, ◌<◌, ◌⊎◌, ◌∙◌, List, Option, Some, IsSome, arith, inl, inr}
use Rattle.std.proofs.Common.{length, sym, ap}
use Rattle.egt_check.specs.Prelude.{get_or-map, false≢true, get_or_past, length-map, entries_or_none, Mate, column_score}
use Rattle.egt_check.specs.Prelude.{cases_lt, IsIndex, Part, table_in, tables_in, entry_at, reach_at, HasBytes, score_at}
use Rattle.egt_check.specs.Prelude.{Setup, Spells, IsVoid, size_of, IsTable, Column, Reach, near_if, near_of, Tables}
use Rattle.egt_check.specs.Prelude.{byte_score, HasColumn, TableValue, entries_of, near_entry, near_table, column_of}
use Rattle.egt_table.specs.declared.column.Column.TheVariants as columns

-- ---- entries

abbrev pub near : TableValue → TableValue
near t = table_in Reach t

pub near_at : (t : TableValue) (i : ℕ) → entry_at (near t) Mate i ≡ near_entry (reach_at t i)
near_at t i = get_or-map near_entry (entries_or_none t.reach) i 0

-- an entry below 128 stays below 256
low_near : (e : ℕ) → e < 128 → byte_score (2 * (e % 256) - 1) ≡ byte_score (near_entry e % 256)
low_near e low = let same : 2 * (e % 256) - 1 ≡ near_entry e % 256 = omega (arith, low) in ap byte_score same

-- then the score in the column is that of the entry as it is read
pub near_score : (t : TableValue) (i : ℕ) → reach_at t i < 128 → column_score t columns.Reach i ≡ score_at (near t) Mate i
near_score t i low = low_near (reach_at t i) low ∙ ap (λ e. byte_score (e % 256)) (sym (near_at t i))

-- entries with bytes of their own are below 128
module _ (t : TableValue) (is_table : IsTable (near t)) (bytes : HasBytes (near t)) (or_void : (i : ℕ) → ((p : Setup) × Spells t.class i p × IsIndex t.class p i) ⊎ IsVoid t.class i) where
  long : length (entries_or_none t.reach) ≡ size_of t.class
  long = sym (length-map (entries_or_none t.reach) near_entry) ∙ is_table.sizes columns.Mate tt

  pub low_reach : (i : ℕ) → reach_at t i < 128
  low_reach i = elim (cases_lt i (size_of t.class)) [
    | inr past ↦ let none : reach_at t i ≡ 0 = get_or_past (entries_or_none t.reach) i 0 (let size = long in omega arith) in omega (arith, none)
    | inl below ↦
        let read = near_at t i in
        elim (or_void i) [
          | inr void ↦ let none = bytes.void Mate i below void in omega (arith, read, none)
          | inl spelled ↦ let known = (bytes.alike i below (λ void. void spelled.0 spelled.1.admissible spelled.2)).mate_known.low in omega (arith, read, known)
        ]
  ]

  pub near_scores : (i : ℕ) → column_score t columns.Reach i ≡ score_at (near t) Mate i
  near_scores i = near_score t i (low_reach i)

-- ---- tables

near_some : (c : ℕ) (reach : Option (List ℕ)) → IsSome reach → near_if c reach ≡ Some (near_table c (entries_or_none reach))
near_some c reach some = grind (arith, false≢true)

-- a table that is found is found as the part is judged
pub found_in : (part : Part) (tables : Tables) (t : TableValue) → HasColumn (column_of part) t → tables t.class ≡ Some t → tables_in part tables t.class ≡ Some (table_in part t)
found_in part tables t there found = grind (arith, near_of, near_some)

near_sizes : (t : TableValue) → IsSome t.reach → IsTable t → (column : Column) → HasColumn column (near t) → length (entries_of column (near t)) ≡ size_of t.class
near_sizes t there is columns.Mate some = length-map (entries_or_none t.reach) near_entry ∙ is.sizes columns.Reach there
near_sizes t there is columns.Zeroing some = length-map (entries_or_none t.reach) near_entry ∙ is.sizes columns.Reach there
near_sizes t there is columns.Reach some = absurd (false≢true some)

pub is_table_in : (part : Part) (t : TableValue) → HasColumn (column_of part) t → IsTable t → IsTable (table_in part t)
is_table_in part t there is = grind (arith, near_sizes)
