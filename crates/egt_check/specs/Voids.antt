-- Tables whose mate entries are 0 exactly at the codes that no position has.
use Rattle.std.specs.Prelude.{◌≡◌, ◌≢◌, ℕ, ◌<◌}
use Rattle.egt_index.specs.Prelude.{IsVoid, code_of, places, number_in, size_of}
use Rattle.egt_lanes.specs.Prelude.{AreVoidOrAlike}
use Rattle.egt_table.specs.Prelude.{TableValue}
use Rattle.egt_board.specs.declared.man.Side.{Side}
use Rattle.egt_entries.specs.declared.metric.Metric.TheVariants.{Mate, Zeroing}
use Rattle.egt_entries.specs.Tables.{entry_at}

-- at each code both entries are 0, or have bytes of their own, alike in both columns
abbrev pub AreAllAlike : TableValue → Type 0
AreAllAlike t = (i : ℕ) → i < size_of t.class → AreVoidOrAlike (entry_at t Mate i) (entry_at t Zeroing i)

-- the mate entry tells whether the code is a position's index
pub record TellsVoid (t : TableValue) (i : ℕ) : Type 0 where
  pub void : entry_at t Mate i ≡ 0 → IsVoid t.class i
  pub index : entry_at t Mate i ≢ 0 → ¬ IsVoid t.class i

-- so does each
abbrev pub TellsVoids : TableValue → Type 0
TellsVoids t = (i : ℕ) → i < size_of t.class → TellsVoid t i

-- so does each of the shelf
abbrev pub TellsVoidsIn : TableValue → ℕ → Type 0
TellsVoidsIn t shelf = (side : Side) (k : ℕ) → k < places t.class → TellsVoid t (code_of t.class (number_in t.class shelf side k))
