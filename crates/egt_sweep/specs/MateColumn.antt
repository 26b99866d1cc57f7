-- The mate column of a class that has no table yet, beside the tables at hand.
use Rattle.std.specs.Prelude.{◌≡◌, ◌≢◌, ℕ, ◌<◌, ◌≤◌, true, List, length, slice_index, None}
use Rattle.egt_check.specs.Prelude.{is_some, Setup, IsAdmissible, IsIndex, size_of, Value, chess, TableValue, Shows}
use Rattle.egt_check.specs.Prelude.{longest, Tables, entry_at}
use Rattle.egt_moves.specs.Prelude.{HasValue}
use Rattle.egt_graph.specs.Prelude.{AreRanks}
use Rattle.egt_entries.specs.declared.metric.Metric.TheVariants.{Mate}
use Rattle.egt_sweep.specs.ClassGame.{class_game}
use Rattle.egt_sweep.specs.Nodes.{position_at}

-- some position has the index
pub record IsIndexed (c i : ℕ) : Type 0 where
  pub position : Setup
  pub admissible : IsAdmissible position
  pub index : IsIndex c position i

-- one entry a code, and at the index of each position one that shows a value
abbrev pub IsMateColumn : ℕ → List ℕ → Type 0
IsMateColumn c entries = (length entries ≡ size_of c)
    × ((i : ℕ) → i < size_of c → is_some (position_at c i) ≡ true → (slice_index entries i ≢ 0) × (slice_index entries i ≢ 2) × (slice_index entries i ≤ 64003))

-- a table of these mate entries; what its zeroing column has does not matter
abbrev pub mate_table : ℕ → List ℕ → TableValue
mate_table c entries = record { class = c; mate = entries; zeroing = entries; reach = None }

-- the ranks of the class's game of mates, as solving it gives them
abbrev pub AreMateRanks : Tables → ℕ → List ℕ → Type 0
AreMateRanks tables c entries = (limit : ℕ) × (limit ≤ longest) × AreRanks (class_game tables Mate c) limit entries

-- the mate entry at the index of each position of the class shows its value
abbrev pub ShowsValues : TableValue → Type 0
ShowsValues t = (p : Setup) (i : ℕ) → IsAdmissible p → IsIndex t.class p i → (v : Value) × HasValue chess p v × Shows (entry_at t Mate i) v
