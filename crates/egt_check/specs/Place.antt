-- Where the entries of a position stand.
use Rattle.std.specs.Prelude.{◌≡◌, ℕ, ◌<◌, Bool, Some, IsSome}
use Rattle.egt_index.specs.Prelude.{Setup, IsOf, IsIndex}
use Rattle.egt_entries.specs.Prelude.{TableValue, Tables}
use Rattle.egt_check.specs.declared.successors.Place.{Place}

-- the class and the index of the position
pub record IsPlaceOf (place : Place) (p : Setup) : Type 0 where
  pub below : place.class < 36
  pub flipped : Bool
  pub of : IsOf place.class flipped p
  pub is_index : IsIndex place.class p place.index

-- the class has a table, with the column of the nearest mates
abbrev pub HasReachAt : Tables → ℕ → Type 0
HasReachAt tables c = (t : TableValue) × (tables c ≡ Some t) × IsSome t.reach
