-- The builder's answer.
use Rattle.std.specs.Prelude.{◌≡◌, ℕ, ◌<◌, ◌≤◌, ◌⊎◌, Bool, Some, None, IfSome, IsSome}
use Rattle.egt_check.specs.Prelude.{Contains, Setup, IsAdmissible, children_of, IsOf, Value, Win, Loss, Draw, chess}
use Rattle.egt_check.specs.Prelude.{HasReach, TableValue, longest, IsFirstLacking, IsFirstMissing, IsAccepted, Tables}
use Rattle.egt_check.specs.Prelude.{HasChildren, HasReachChildren, IsTrueReach, IsTrueTable}
use Rattle.egt_moves.specs.Prelude.{HasValue}
use Rattle.egt_sweep.specs.declared.build_fault.BuildFault.{BuildFault}
use Rattle.egt_sweep.specs.declared.migrate_fault.MigrateFault.{MigrateFault}
use Rattle.egt_sweep.specs.declared.build_fault.BuildFault.TheVariants as faults
use Rattle.egt_sweep.specs.declared.migrate_fault.MigrateFault.TheVariants as migrating

-- no more plies than the limit
abbrev pub IsWithinLimit : ℕ → Value → Type 0
IsWithinLimit limit (Win n) = n ≤ limit
IsWithinLimit limit (Loss n) = n ≤ limit
IsWithinLimit limit Draw = Unit {0}

-- more plies than the limit
abbrev pub IsAboveLimit : ℕ → Value → Type 0
IsAboveLimit limit (Win n) = limit < n
IsAboveLimit limit (Loss n) = limit < n
IsAboveLimit limit Draw = ⊥

-- each position of the class is a draw or of a mate distance within the limit
abbrev pub AllWithinLimit : ℕ → ℕ → Type 0
AllWithinLimit c limit = (p : Setup) (flipped : Bool) (v : Value) → IsAdmissible p → IsOf c flipped p → HasValue chess p v → IsWithinLimit limit v

-- some position of the class has a mate distance above the limit
pub record SomeAboveLimit (c limit : ℕ) : Type 0 where
  pub position : Setup
  pub admissible : IsAdmissible position
  pub flipped : Bool
  pub of : IsOf c flipped position
  pub value : Value
  pub has_value : HasValue chess position value
  pub above : IsAboveLimit limit value

-- some position of the class has its nearest mate more than 32,000 plies away
pub record SomeReachesFar (c : ℕ) : Type 0 where
  pub position : Setup
  pub admissible : IsAdmissible position
  pub flipped : Bool
  pub of : IsOf c flipped position
  pub plies : ℕ
  pub reach : HasReach chess position (Some plies)
  pub far : longest < plies

-- the table of the class with all three columns, every entry of which is true, and which a check beside the tables at hand accepts
pub record IsBuilt (tables : Tables) (c limit : ℕ) (t : TableValue) : Type 0 where
  pub class : t.class ≡ c
  pub reach : IsSome t.reach
  pub true : IsTrueTable t
  pub accepted : IsAccepted tables t
  pub within : AllWithinLimit c limit

-- some mate distance is above the limit; or none is, and some nearest mate is farther away than an entry can tell
abbrev pub IsTooDeep : (c limit n : ℕ) → Type 0
IsTooDeep c limit n = ((n ≡ limit) × SomeAboveLimit c limit) ⊎ ((n ≡ longest) × AllWithinLimit c limit × SomeReachesFar c)

-- why the class has no game of the nearest mates
abbrev pub IsNoGame : Tables → ℕ → BuildFault → Type 0
IsNoGame tables c (faults.Missing d) = IsFirstMissing tables c d
IsNoGame tables c (faults.NoReach d) = HasChildren tables c × IsFirstLacking tables c d
IsNoGame tables c fault = ⊥

-- why the table of the class is not built
abbrev pub IsNotBuilt : Tables → (c limit : ℕ) → BuildFault → Type 0
IsNotBuilt tables c limit faults.NoMemory = HasChildren tables c × HasReachChildren tables c
IsNotBuilt tables c limit (faults.TooDeep n) = HasChildren tables c × HasReachChildren tables c × IsTooDeep c limit n
IsNotBuilt tables c limit (faults.Missing d) = IsFirstMissing tables c d
IsNotBuilt tables c limit (faults.NoReach d) = HasChildren tables c × IsFirstLacking tables c d

-- the table with the column of the nearest mates too, which a check accepts
pub record IsMigrated (tables : Tables) (old new : TableValue) : Type 0 where
  pub lacked : old.reach ≡ None
  pub reach_children : HasReachChildren tables old.class
  pub class : new.class ≡ old.class
  pub mate : new.mate ≡ old.mate
  pub zeroing : new.zeroing ≡ old.zeroing
  pub reach : IsSome new.reach
  pub true : IsTrueReach new
  pub accepted : IsAccepted tables new

-- why it is not made
abbrev pub IsNotMigrated : Tables → TableValue → MigrateFault → Type 0
IsNotMigrated tables t migrating.HasReach = IsSome t.reach
IsNotMigrated tables t (migrating.NoReach d) = (t.reach ≡ None) × IsFirstLacking tables t.class d
IsNotMigrated tables t migrating.NoMemory = (t.reach ≡ None) × HasReachChildren tables t.class
IsNotMigrated tables t migrating.TooDeep = (t.reach ≡ None) × HasReachChildren tables t.class × SomeReachesFar t.class

-- the tables of the children that are there are true
abbrev pub HasNoFalseChild : Tables → ℕ → Type 0
HasNoFalseChild tables c = (d : ℕ) → Contains (children_of c) d → IfSome (tables d) (λ t. (t.class ≡ d) × IsTrueTable t)
