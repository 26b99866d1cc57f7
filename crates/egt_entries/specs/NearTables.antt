-- The column of the nearest mates read as a mate column: where the nearest mate is n plies away as lost in n, where there is none as drawn. So the
-- nearest mate is one ply past the soonest loss among the successors, whoever moves there.
use Rattle.std.specs.Prelude.{ℕ, ◌*◌, ◌-◌, List, map, Option, Some, None}
use Rattle.egt_entries.specs.Prelude.{TableValue, Tables}

abbrev pub near_entry : ℕ → ℕ
near_entry x = 2 * x - 1

-- a table with that column in the place of both others
abbrev pub near_table : ℕ → List ℕ → TableValue
near_table c entries = record { class = c; mate = map near_entry entries; zeroing = map near_entry entries; reach = None }

abbrev pub near_if : ℕ → Option (List ℕ) → Option TableValue
near_if c None = None
near_if c (Some entries) = Some (near_table c entries)

abbrev pub near_of : Option TableValue → Option TableValue
near_of None = None
near_of (Some t) = near_if t.class t.reach

-- such tables of the classes whose tables have the column
abbrev pub near_tables : Tables → Tables
near_tables tables c = near_of (tables c)
