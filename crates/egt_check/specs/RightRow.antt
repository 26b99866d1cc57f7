-- Entries judged by the greatest bytes of the moves.
use Rattle.std.specs.Prelude.{◌≡◌, ◌≢◌, ℕ}
use Rattle.egt_entries.specs.Prelude.{Setup, Spells, TableValue, IsAtEnd, reach_at}
use Rattle.egt_lanes.specs.Prelude.{due_score, reach_due_score}
use Rattle.egt_entries.specs.declared.metric.Metric.TheVariants.{Mate, Zeroing}
use Rattle.egt_check.specs.declared.part.Part.{Part}
use Rattle.egt_check.specs.declared.part.Part.TheVariants.{Values, Reach}
use Rattle.egt_entries.specs.NearTables.{near_entry}
use Rattle.egt_entries.specs.Tables.{entry_at}
use Rattle.egt_check.specs.Worth.{column_score, score_at}
use Rattle.egt_table.specs.declared.column.Column.TheVariants as columns

-- the entries at a code without a move, told by checkmate or stalemate
abbrev pub IsRightEnd : TableValue → ℕ → Type 0
IsRightEnd t i = (p : Setup) → Spells t.class i p → (x : ℕ) × IsAtEnd p x × (entry_at t Mate i ≡ x) × (entry_at t Zeroing i ≡ x)

-- the same of the column of the nearest mates, read as a mate column
abbrev pub IsRightReachEnd : TableValue → ℕ → Type 0
IsRightReachEnd t i = (p : Setup) → Spells t.class i p → (x : ℕ) × IsAtEnd p x × (near_entry (reach_at t i) ≡ x)

-- the same of a part
abbrev pub IsRightEndOf : Part → TableValue → ℕ → Type 0
IsRightEndOf Values t i = IsRightEnd t i
IsRightEndOf Reach t i = IsRightReachEnd t i

-- the entries at a code are due to these greatest bytes of the moves, or there is none
pub record IsRightAt (t : TableValue) (i mate zeroing : ℕ) : Type 0 where
  pub due : mate ≢ 0 → (score_at t Mate i ≡ due_score mate) × (score_at t Zeroing i ≡ due_score zeroing)
  pub end : mate ≡ 0 → IsRightEnd t i

-- the same of the column of the nearest mates
pub record IsRightReachAt (t : TableValue) (i reach : ℕ) : Type 0 where
  pub due : reach ≢ 0 → column_score t columns.Reach i ≡ reach_due_score reach
  pub end : reach ≡ 0 → IsRightReachEnd t i

-- the same of a part; the second score is of the zeroing column alone
abbrev pub IsRightAtOf : Part → TableValue → (i score zeroing : ℕ) → Type 0
IsRightAtOf Values t i score zeroing = IsRightAt t i score zeroing
IsRightAtOf Reach t i score zeroing = IsRightReachAt t i score

-- what the score in the part's column has to be, by the greatest after a move
abbrev pub due_in : Part → ℕ → ℕ
due_in Values score = due_score score
due_in Reach score = reach_due_score score
