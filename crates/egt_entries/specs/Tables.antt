-- The tables at hand, by class, and what they show of positions.
use Rattle.std.specs.Prelude.{◌≡◌, ℕ, ◌<◌, ◌==◌, Bool, if◌then◌else◌, List, slice_index, slice_index_or, Option, Some}
use Rattle.std.specs.Prelude.{None, IsSome, IfSome}
use Rattle.egt_class.specs.Prelude.{Contains, Setup, children_of, IsOf}
use Rattle.egt_table.specs.Prelude.{TableValue, entries_or_none}
use Rattle.egt_moves.specs.Prelude.{Value}
use Rattle.egt_index.specs.Prelude.{IsIndex}
use Rattle.egt_entries.specs.declared.metric.Metric.{Metric}
use Rattle.egt_entries.specs.declared.metric.Metric.TheVariants.{Mate, Zeroing}
use Rattle.egt_entries.specs.Entry.{Shows}

-- of each class its table, if there is one
abbrev pub Tables : Type 0
Tables = ℕ → Option TableValue

-- a place a class
abbrev pub table_at : List (Option TableValue) → Tables
table_at places c = slice_index_or places c None

-- the tables, and this one of its own class
abbrev pub beside : Tables → TableValue → Tables
beside tables t c = if c == t.class then Some t else tables c

-- the column of wins and losses in the metric
abbrev pub entries_in : Metric → TableValue → List ℕ
entries_in Mate t = t.mate
entries_in Zeroing t = t.zeroing

abbrev pub entry_at : TableValue → Metric → ℕ → ℕ
entry_at t metric i = slice_index (entries_in metric t) i

-- the entry of the column of the nearest mates
abbrev pub reach_at : TableValue → ℕ → ℕ
reach_at t i = slice_index (entries_or_none t.reach) i

-- the entry of the position's index in the table of its class
pub record HasEntry (tables : Tables) (metric : Metric) (p : Setup) (x : ℕ) : Type 0 where
  pub class : ℕ
  pub below : class < 36
  pub flipped : Bool
  pub of : IsOf class flipped p
  pub table : TableValue
  pub found : tables class ≡ Some table
  pub index : ℕ
  pub is_index : IsIndex class p index
  pub is : x ≡ entry_at table metric index

-- that entry shows the value
abbrev pub ShowsOf : Tables → Metric → Setup → Value → Type 0
ShowsOf tables metric p v = (x : ℕ) × HasEntry tables metric p x × Shows x v

-- each child of the class has its table
abbrev pub HasChildren : Tables → ℕ → Type 0
HasChildren tables c = (d : ℕ) → Contains (children_of c) d → IsSome (tables d)

-- the tables of the children that are there have the column of the nearest mates
abbrev pub HasReachChildren : Tables → ℕ → Type 0
HasReachChildren tables c = (d : ℕ) → Contains (children_of c) d → IfSome (tables d) (λ t. IsSome t.reach)
