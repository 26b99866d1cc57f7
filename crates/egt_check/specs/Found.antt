-- Entries told by scores in bytes.
use Rattle.std.specs.Prelude.{◌≡◌, ◌≢◌, ℕ, ◌+◌, ◌*◌, ◌-◌, ◌%◌, ◌<◌, ◌≤◌, ◌⊎◌, ◌==◌, nat_lt, if◌then◌else◌, List, length, map, Option, Some, None, IsSome, slice_index}
use Rattle.egt_class.specs.Size.{size_of}
use Rattle.egt_lanes.specs.Scores.{zeroing_score}
use Rattle.egt_table.specs.Table.{HasColumn, IsTable, TableValue, entries_of}
use Rattle.egt_table.specs.declared.column.Column.{Column}
use Rattle.egt_table.specs.declared.column.Column.TheVariants.{Mate, Zeroing, Reach}
use Rattle.egt_check.specs.Given.{AreAlike}
use Rattle.egt_check.specs.Worth.{column_score, entry_score}
use Rattle.egt_check.specs.declared.part.Part.{Part}
use Rattle.egt_check.specs.declared.part.Part.TheVariants.{Values}
use Rattle.egt_check.specs.declared.part.Part.TheVariants as parts
use Rattle.egt_check.specs.ScoreRows.{CodeScores}

-- the entry of the mate column or the zeroing column that has the score: a draw's is 128, a win's in n plies n, a loss's 255 - n
abbrev pub value_told : ℕ → ℕ
value_told b = if b == 0 then 0 else (if b == 128 then 1 else (if nat_lt b 128 then 2 + 2 * b else 513 - 2 * b))

-- that of the column of the nearest mates
abbrev pub near_told : ℕ → ℕ
near_told b = if b == 0 then 0 else (if b == 128 then 1 else 257 - b)

abbrev pub told : Column → ℕ → ℕ
told Mate = value_told
told Zeroing = value_told
told Reach = near_told

-- the score is that of the entry that it tells
abbrev pub TellsEntry : Column → ℕ → Type 0
TellsEntry column b = entry_score column (told column b % 256) ≡ b

-- the scores are those of the column's entries, one for each code of the class
pub record TellColumn (column : Column) (c : ℕ) (scores : CodeScores) : Type 0 where
  pub class_is : scores.class ≡ c
  pub long : length scores.scores ≡ size_of c
  pub tell : (code : ℕ) → TellsEntry column (slice_index scores.scores code)

-- the table with the entries that scores tell: in the mate column and the zeroing column, or in that of the nearest mates
abbrev pub table_told : TableValue → CodeScores → Option CodeScores → TableValue
table_told t scores (Some clocks) = record { class = t.class; mate = map value_told scores.scores; zeroing = map value_told clocks.scores; reach = t.reach }
table_told t scores None = record { class = t.class; mate = t.mate; zeroing = t.zeroing; reach = Some (map near_told scores.scores) }

abbrev pub AreFound : TableValue → CodeScores → Option CodeScores → Type 0
AreFound t scores (Some clocks) = IsTable t × TellColumn Mate t.class scores × TellColumn Zeroing t.class clocks
AreFound t scores None = IsTable t × TellColumn Reach t.class scores × IsSome t.reach

-- the part's entries at the code have these scores, and are known; the second is of the zeroing column alone
abbrev pub IsToldAt : Part → TableValue → (code score clock : ℕ) → Type 0
IsToldAt Values t code score clock = (column_score t Mate code ≡ score) × (column_score t Zeroing code ≡ clock) × AreAlike (slice_index t.mate code) (slice_index t.zeroing code)
IsToldAt parts.Reach t code score clock = (column_score t Reach code ≡ score) × (slice_index (entries_of Reach t) code ≢ 0) × (slice_index (entries_of Reach t) code < 128)

-- an entry below 254 has the score
pub record IsValueScore (b : ℕ) : Type 0 where
  pub some : b ≢ 0
  pub no_win : b ≢ 126
  pub no_entry : b ≢ 127
  pub no_loss : b ≢ 129

-- an entry of the column of the nearest mates below 128 has it
pub record IsNearScore (b : ℕ) : Type 0 where
  pub high : 128 ≤ b
  pub no_loss : b ≢ 129

-- entries of the part have the scores; of both columns of values, they tell one result
abbrev pub AreTold : Part → (score clock : ℕ) → Type 0
AreTold Values score clock = IsValueScore score × IsValueScore clock × (zeroing_score score ≡ zeroing_score clock)
AreTold parts.Reach score clock = IsNearScore score

-- the new table is the old one but for entries of the part at such codes
pub record IsPutIn (part : Part) (At : ℕ → Type 0) (old new : TableValue) : Type 0 where
  pub class : new.class ≡ old.class
  pub there : (column : Column) → HasColumn column old → HasColumn column new
  pub same : (column : Column) (code : ℕ) → (slice_index (entries_of column new) code ≡ slice_index (entries_of column old) code) ⊎ At code
  pub mate : part ≡ parts.Reach → new.mate ≡ old.mate
  pub zeroing : part ≡ parts.Reach → new.zeroing ≡ old.zeroing
  pub reach : part ≡ Values → new.reach ≡ old.reach

-- the entry at the code is the one that its score tells
abbrev pub IsToldEntry : Column → (scores : List ℕ) → TableValue → ℕ → Type 0
IsToldEntry column scores t i = slice_index (entries_of column t) i ≡ told column (slice_index scores i)

-- the new table is the old one but for entries of the column that were not told, and now are
pub record IsToldFrom (column : Column) (scores : List ℕ) (old new : TableValue) : Type 0 where
  pub class : new.class ≡ old.class
  pub there : (other : Column) → HasColumn other old → HasColumn other new
  pub others : (other : Column) → other ≢ column → entries_of other new ≡ entries_of other old
  pub reach : column ≢ Reach → new.reach ≡ old.reach
  pub kept : (i : ℕ) → IsToldEntry column scores old i → IsToldEntry column scores new i
