-- An entry of the column of the nearest mates shows: 2 + n a checkmate n plies away, n from 0 to 32,000, by moves of both sides; 1 that
-- there is none (FIDE Laws of Chess 2023, article 5.2.2); any other nothing. And what it must be beside the entries of the successors: one look
-- forward, no search.
use Rattle.std.specs.Prelude.{◌≡◌, ℕ, zero, suc, ◌+◌, ◌<◌, ◌≤◌, ◌↔◌, Bool, Option, Some, None}
use Rattle.egt_moves.specs.Prelude.{Setup, EachMove, chess}
use Rattle.egt_index.specs.Prelude.{IsOf, IsIndex}
use Rattle.egt_table.specs.Prelude.{TableValue}
use Rattle.egt_moves.specs.Entries.{IsLeast}
use Rattle.egt_entries.specs.Entry.{longest}
use Rattle.egt_entries.specs.Tables.{Tables, reach_at}

-- an entry has room for it
abbrev pub IsShortReach : Option ℕ → Type 0
IsShortReach (Some n) = n ≤ longest
IsShortReach None = Unit {0}

abbrev pub reach_entry_of : Option ℕ → ℕ
reach_entry_of (Some n) = 2 + n
reach_entry_of None = 1

abbrev pub ShowsReach : ℕ → Option ℕ → Type 0
ShowsReach x number = IsShortReach number × (x ≡ reach_entry_of number)

-- the entry of the position's index in the table of its class
pub record HasReachEntry (tables : Tables) (p : Setup) (x : ℕ) : Type 0 where
  pub class : ℕ
  pub below : class < 36
  pub flipped : Bool
  pub of : IsOf class flipped p
  pub table : TableValue
  pub found : tables class ≡ Some table
  pub index : ℕ
  pub is_index : IsIndex class p index
  pub is : x ≡ reach_at table index

-- that entry shows the number
abbrev pub ShowsReachOf : Tables → Setup → Option ℕ → Type 0
ShowsReachOf tables p number = (x : ℕ) × HasReachEntry tables p x × ShowsReach x number

-- checkmate is 0 plies away, any other position one more than the least number that is shown of a successor; where none is shown, there is none
abbrev pub FitsReachBeside : (Setup → Option ℕ → Type 0) → Setup → Option ℕ → Type 0
FitsReachBeside shows p (Some zero) = chess.Checkmate p
FitsReachBeside shows p (Some (suc n)) = ¬ (chess.Checkmate p) × IsLeast chess p (λ q m k. shows q (Some k)) n
FitsReachBeside shows p None = ¬ (chess.Checkmate p) × EachMove chess p (λ q. (k : ℕ) → ¬ shows q (Some k))

-- no entry but x shows a number that fits the position
abbrev pub IsReachDue : (Setup → Option ℕ → Type 0) → Setup → ℕ → Type 0
IsReachDue shows p x = (number : Option ℕ) → FitsReachBeside shows p number ↔ (x ≡ reach_entry_of number)
