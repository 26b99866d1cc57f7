-- Columns before anything is told of them, and tables that have a column more.
use Rattle.std.specs.Prelude.{◌≡◌, ℕ, ◌<◌, List, IsSome, slice_index}
use Rattle.egt_sweep.specs.Prelude.{IsVoid, size_of, TableValue, IsTrueTable}
use Rattle.egt_sweep.specs.declared.tables.Reached.{Reached}
use Rattle.egt_sweep.specs.declared.tables.Reached.TheVariants.{Filled, Untold, NoMemory}

-- a draw, or a dead position, at an index, and nothing at a void code
pub record IsDrawnAt (c : ℕ) (entries : List ℕ) (i : ℕ) : Type 0 where
  pub void : IsVoid c i → slice_index entries i ≡ 0
  pub index : ¬ IsVoid c i → slice_index entries i ≡ 1

-- so is each code of the class
abbrev pub IsDrawn : (c : ℕ) → List ℕ → Type 0
IsDrawn c entries = (i : ℕ) → i < size_of c → IsDrawnAt c entries i

-- the table with a column of the nearest mates, and its other columns
pub record IsWithReach (old new : TableValue) : Type 0 where
  pub class : new.class ≡ old.class
  pub mate : new.mate ≡ old.mate
  pub zeroing : new.zeroing ≡ old.zeroing
  pub reach : IsSome new.reach

-- the true table with that column, or the table as it was
abbrev pub IsReached : TableValue → Reached → Type 0
IsReached old (Filled new) = IsWithReach old new × IsTrueTable new
IsReached old (Untold new) = new ≡ old
IsReached old (NoMemory new) = new ≡ old
