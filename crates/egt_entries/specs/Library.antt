-- Libraries: a place for each class, with a true table of the class or none.
use Rattle.std.specs.Prelude.{◌≡◌, ℕ, ◌<◌, ◌≤◌, List, length, Option, Some, None, IfSome, IsSome}
use Rattle.egt_entries.specs.Prelude.{Contains, Metric, Mate, TableValue, Rule, Tables, KeepsBelow}
use Rattle.egt_table.specs.Prelude.{HasColumn, IsTable, size_of}
use Rattle.egt_class.specs.Prelude.{children_of}
use Rattle.egt_table.specs.declared.column.Column.{Column}
use Rattle.egt_entries.specs.declared.reject.Reject.{Reject}
use Rattle.egt_entries.specs.declared.reject.Reject.TheVariants.{Missing, NoReach, Rejected, AlreadyThere}
use Rattle.egt_entries.specs.Tables.{table_at, beside, HasChildren, HasReachChildren}
use Rattle.egt_entries.specs.Rules.{IsFirstBroken, KeepsIn, KeepsInBelow, KeepsRules}
use Rattle.egt_entries.specs.Truth.{IsTrueTable}
use Rattle.egt_table.specs.declared.column.Column.TheVariants as columns

-- where the table has the column of the nearest mates, the tables of its children that are there have it
abbrev pub ReachesDown : Tables → TableValue → Type 0
ReachesDown tables t = IsSome t.reach → HasReachChildren tables t.class

-- the table of a class is of that class and true, and its children have theirs, with the column of the nearest mates where it has that column
pub record IsShelved (tables : Tables) (c : ℕ) (t : TableValue) : Type 0 where
  pub class : t.class ≡ c
  pub table : IsTable t
  pub true : IsTrueTable t
  pub children : HasChildren tables c
  pub down : ReachesDown tables t

-- each table at hand is such a one
abbrev pub AreShelved : Tables → Type 0
AreShelved tables = (c : ℕ) → c < 36 → IfSome (tables c) (IsShelved tables c)

pub record IsLibrary (places : List (Option TableValue)) : Type 0 where
  pub one_a_class : length places ≡ 36
  pub shelved : AreShelved (table_at places)

-- the table is there and lacks the column of the nearest mates
abbrev pub LacksReach : Option TableValue → Type 0
LacksReach None = ⊥
LacksReach (Some t) = t.reach ≡ None

-- d is the least child of the class whose table lacks that column
pub record IsFirstLacking (tables : Tables) (c d : ℕ) : Type 0 where
  pub child : Contains (children_of c) d
  pub lacks : LacksReach (tables d)
  pub first : (e : ℕ) → Contains (children_of c) e → LacksReach (tables e) → d ≤ e

-- d is the least child of the class that has no table
pub record IsFirstMissing (tables : Tables) (c d : ℕ) : Type 0 where
  pub child : Contains (children_of c) d
  pub absent : tables d ≡ None
  pub first : (e : ℕ) → Contains (children_of c) e → tables e ≡ None → d ≤ e

-- the columns before this one keep the rules
abbrev pub KeepsBefore : Tables → TableValue → Column → Type 0
KeepsBefore tables t columns.Mate = Unit {0}
KeepsBefore tables t columns.Zeroing = KeepsBelow tables t Mate (size_of t.class)
KeepsBefore tables t columns.Reach = (metric : Metric) → KeepsBelow tables t metric (size_of t.class)

-- in the first column with a bad entry, the least index of one and the first rule that it breaks
pub record IsFirstBreak (tables : Tables) (t : TableValue) (column : Column) (i : ℕ) (rule : Rule) : Type 0 where
  pub there : HasColumn column t
  pub below : i < size_of t.class
  pub columns : KeepsBefore tables t column
  pub entries : KeepsInBelow tables t column i
  pub breaks : IsFirstBroken (KeepsIn tables t column i) rule

-- why the table is refused beside these
abbrev pub IsRefused : Tables → TableValue → Reject → Type 0
IsRefused tables t (Missing d) = IsFirstMissing tables t.class d
IsRefused tables t (NoReach d) = HasChildren tables t.class × IsSome t.reach × IsFirstLacking tables t.class d
IsRefused tables t (Rejected column i rule) = HasChildren tables t.class × ReachesDown tables t × IsFirstBreak (beside tables t) t column i rule
IsRefused tables t AlreadyThere = ⊥

-- nothing speaks against the table
pub record IsAccepted (tables : Tables) (t : TableValue) : Type 0 where
  pub children : HasChildren tables t.class
  pub reach_children : ReachesDown tables t
  pub rules : KeepsRules (beside tables t) t

-- why a library does not take the table
abbrev pub IsTurnedAway : Tables → TableValue → Reject → Type 0
IsTurnedAway tables t AlreadyThere = IsSome (tables t.class)
IsTurnedAway tables t reject = (tables t.class ≡ None) × IsRefused tables t reject
