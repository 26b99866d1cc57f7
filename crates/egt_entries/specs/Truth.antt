-- True tables: each entry is the value or the zeroing distance of its position.
use Rattle.std.specs.Prelude.{◌≡◌, ℕ, ◌<◌, Option, Some, IsSome}
use Rattle.egt_entries.specs.Prelude.{Contains, Setup, IsVoid, Value, chess, Metric, Mate, Zeroing, TableValue}
use Rattle.egt_entries.specs.Prelude.{ShowsReach, Tables, reach_at}
use Rattle.egt_moves.specs.Prelude.{IsAdmissible, HasValue, HasReach, HasZeroing}
use Rattle.egt_index.specs.Prelude.{IsIndex, size_of}
use Rattle.egt_class.specs.Prelude.{children_of}
use Rattle.egt_entries.specs.Entry.{Shows}
use Rattle.egt_entries.specs.Tables.{entry_at}

-- what an entry tells of a position in each metric
abbrev pub Tells : Metric → Setup → Value → Type 0
Tells Mate p v = HasValue chess p v
Tells Zeroing p v = HasZeroing chess p v

-- the column of the nearest mates: a void entry is 0, any other shows how far the nearest checkmate is from each position with that index
pub record IsTrueReach (t : TableValue) : Type 0 where
  pub void : (i : ℕ) → i < size_of t.class → IsVoid t.class i → reach_at t i ≡ 0
  pub true : (p : Setup) (i : ℕ) → IsAdmissible p → IsIndex t.class p i → (number : Option ℕ) × HasReach chess p number × ShowsReach (reach_at t i) number

-- the columns of wins and losses likewise
pub record HasTrueValues (t : TableValue) : Type 0 where
  pub void : (metric : Metric) (i : ℕ) → i < size_of t.class → IsVoid t.class i → entry_at t metric i ≡ 0
  pub true : (metric : Metric) (p : Setup) (i : ℕ) → IsAdmissible p → IsIndex t.class p i → (v : Value) × Tells metric p v × Shows (entry_at t metric i) v

-- a void entry is 0, any other shows what is told of each position with that index; so no distance is above 32,000. The column of the nearest
-- mates is as true where it is there.
pub record IsTrueTable (t : TableValue) : Type 0 where
  pub void : (metric : Metric) (i : ℕ) → i < size_of t.class → IsVoid t.class i → entry_at t metric i ≡ 0
  pub true : (metric : Metric) (p : Setup) (i : ℕ) → IsAdmissible p → IsIndex t.class p i → (v : Value) × Tells metric p v × Shows (entry_at t metric i) v
  pub reach : IsSome t.reach → IsTrueReach t

-- each child of the class has a true table
abbrev pub HasTrueChildren : Tables → ℕ → Type 0
HasTrueChildren tables c = (d : ℕ) → Contains (children_of c) d → (t : TableValue) × (tables d ≡ Some t) × (t.class ≡ d) × IsTrueTable t

-- each child of the class has a table whose columns of wins and losses are true
abbrev pub HasTrueValuesBelow : Tables → ℕ → Type 0
HasTrueValuesBelow tables c = (d : ℕ) → Contains (children_of c) d → (t : TableValue) × (tables d ≡ Some t) × (t.class ≡ d) × HasTrueValues t

-- and one with a true column of the nearest mates
abbrev pub HasTrueReachesBelow : Tables → ℕ → Type 0
HasTrueReachesBelow tables c = (d : ℕ) → Contains (children_of c) d → (t : TableValue) × (tables d ≡ Some t) × (t.class ≡ d) × IsSome t.reach × IsTrueReach t
