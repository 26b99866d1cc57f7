-- Which classes a library has loaded, those with a table, and which of the tables have the column of the nearest mates. No other definition
-- here names a table.
use Rattle.std.specs.Prelude.{List, Option, is_some, option_map}
use Rattle.egt_check.specs.Prelude.{TableValue, table_at}
use Rattle.egt_probe.specs.Loaded.{Loaded}

abbrev pub loaded_in : List (Option TableValue) → Loaded
loaded_in places c = option_map (λ t. is_some t.reach) (table_at places c)
