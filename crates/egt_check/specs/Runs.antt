-- The codes of a class in runs, and which of these were found right.
use Rattle.std.specs.Prelude.{◌≡◌, ℕ, ◌+◌, ◌*◌, ◌<◌, ◌≤◌, true, false, get_or}
use Rattle.egt_table.specs.Prelude.{size_of, TableValue}
use Rattle.egt_entries.specs.Prelude.{Tables}
use Rattle.egt_check.specs.Parts.{TellsPart}
use Rattle.egt_check.specs.RightBlock.{KeepsPart}
use Rattle.egt_check.specs.declared.part.Part.{Part}
use Rattle.egt_check.specs.declared.runs.Runs.{Runs}

-- the run is marked with either side to move
pub record IsMarked (runs : Runs) (run : ℕ) : Type 0 where
  pub white : get_or runs.white run false ≡ true
  pub black : get_or runs.black run false ≡ true

-- the runs have all codes of the class, the part's entries of marked ones keep the rules, and the table tells them where that is known
pub record AreRuns (part : Part) (tables : Tables) (t : TableValue) (runs : Runs) : Type 0 where
  pub all : runs.count * runs.len ≡ size_of t.class
  pub few : runs.count ≤ 2048
  pub told : runs.tells ≡ true → TellsPart part t
  pub right : (run i : ℕ) → IsMarked runs run → run * runs.len ≤ i → i < (run + 1) * runs.len → i < size_of t.class → KeepsPart part tables t i
