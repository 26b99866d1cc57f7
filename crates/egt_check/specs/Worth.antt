-- Scores of a class's men on their squares by its table, in bytes.
use Rattle.std.specs.Prelude.{◌≡◌, ℕ, ◌%◌, ◌<◌, ◌≤◌, ◌⊎◌, Bool, false, slice_index}
use Rattle.egt_index.specs.Prelude.{Setup, IsIndex, IsVoid, size_of, HasStand}
use Rattle.egt_lanes.specs.Prelude.{byte_score, reach_score}
use Rattle.egt_table.specs.Prelude.{TableValue, entries_of}
use Rattle.egt_board.specs.declared.man.Side.{Side}
use Rattle.egt_index.specs.declared.stand.Stand.{Stand}
use Rattle.egt_table.specs.declared.column.Column.{Column}
use Rattle.egt_entries.specs.declared.metric.Metric.{Metric}
use Rattle.egt_entries.specs.declared.metric.Metric.TheVariants.{Mate, Zeroing}
use Rattle.egt_check.specs.Given.{AreAlike}
use Rattle.egt_entries.specs.Tables.{entry_at}
use Rattle.egt_table.specs.declared.column.Column.TheVariants as columns

-- the score of the entry at the code
abbrev pub score_at : TableValue → Metric → ℕ → ℕ
score_at t metric code = byte_score (entry_at t metric code % 256)

-- the score of an entry below 256 of the column
abbrev pub entry_score : Column → ℕ → ℕ
entry_score columns.Mate e = byte_score e
entry_score columns.Zeroing e = byte_score e
entry_score columns.Reach e = reach_score e

-- the same at the code, by columns
abbrev pub column_score : TableValue → Column → ℕ → ℕ
column_score t column code = entry_score column (slice_index (entries_of column t) code % 256)

-- each void entry is 0, and each other one has a byte of its own, alike in both columns
pub record HasBytes (t : TableValue) : Type 0 where
  pub void : (metric : Metric) (i : ℕ) → i < size_of t.class → IsVoid t.class i → entry_at t metric i ≡ 0
  pub alike : (i : ℕ) → i < size_of t.class → ¬ IsVoid t.class i → AreAlike (entry_at t Mate i) (entry_at t Zeroing i)

-- the score of the entry of a position with some of these men, and a target where one was passed
pub record IsScoreWith (targeted : Bool) (t : TableValue) (metric : Metric) (In : Stand → Type 0) (flips : Bool) (side : Side) (w : ℕ) : Type 0 where
  pub stand : Stand
  pub in_stands : In stand
  pub position : Setup
  pub has : HasStand t.class flips stand side targeted position
  pub index : ℕ
  pub is_index : IsIndex t.class position index
  pub is : w ≡ score_at t metric index

-- the greatest score of the entries of all such positions, or 0 where there is none
pub record IsBestWith (targeted : Bool) (t : TableValue) (metric : Metric) (In : Stand → Type 0) (flips : Bool) (side : Side) (w : ℕ) : Type 0 where
  pub above : (stand : Stand) (q : Setup) → In stand → HasStand t.class flips stand side targeted q → (i : ℕ) × IsIndex t.class q i × (score_at t metric i ≤ w)
  pub reached : (w ≡ 0) ⊎ IsScoreWith targeted t metric In flips side w

-- of those without a target
abbrev pub IsBestOf : TableValue → Metric → (Stand → Type 0) → Bool → Side → ℕ → Type 0
IsBestOf = IsBestWith false
