-- The steps from a position and the tables in which their successors are found.
use Rattle.std.specs.Prelude.{ℕ, Bool, List, Option}
use Rattle.egt_entries.specs.Prelude.{Setup, TableValue, Shown}
use Rattle.egt_class.specs.Prelude.{IsOf}
use Rattle.egt_entries.specs.Tables.{table_at, beside, ShowsOf}

-- the position is of the class, in whatever colours
abbrev pub IsInClass : ℕ → Setup → Type 0
IsInClass c p = (flipped : Bool) × IsOf c flipped p

-- what a library and this table show
abbrev pub shown_by : List (Option TableValue) → TableValue → Shown
shown_by places t = ShowsOf (beside (table_at places) t)
