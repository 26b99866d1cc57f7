-- Positions given by a list of men, and the first fault of such a list.
use Rattle.std.specs.Prelude.{◌≢◌, ℕ, ◌<◌, ◌≤◌, List, length, map, Option, slice_index}
use Rattle.std.specs.FinMap as placement
use Rattle.egt_board.specs.declared.fault.PosFault.{PosFault}
use Rattle.egt_board.specs.declared.fault.PosFault.TheVariants.{MenCount, KingCount, PawnRank, EpMismatch, WaitingInCheck}
use Rattle.egt_board.specs.declared.man.Side.{Side}
use Rattle.egt_board.specs.declared.man.Man.{Man}
use Rattle.egt_board.specs.Man.{other_side}
use Rattle.egt_board.specs.Placement.{Placement}
use Rattle.egt_board.specs.Attack.{IsInCheck}
use Rattle.egt_board.specs.Setup.{Setup, HasKings}
use Rattle.egt_board.specs.Pawn.{PawnsFit}
use Rattle.egt_board.specs.Target.{FitsTarget}

abbrev pub entry_of : Man × ℕ → ℕ × Man
entry_of e = (e.1, e.0)

abbrev pub man_entry : ℕ × Man → Man × ℕ
man_entry e = (e.1, e.0)

-- the placement of these men
unfoldable pub men_of : List (Man × ℕ) → Placement
men_of list = placement.from_entries (map entry_of list)

abbrev pub squares_of : List (Man × ℕ) → List ℕ
squares_of list = map (λ e. e.1) list

abbrev pub setup_of : List (Man × ℕ) → Side → Option ℕ → Setup
setup_of list side target = record { men = men_of list; side = side; target = target }

-- at most four men, and no square twice
pub record FitsBoard (list : List (Man × ℕ)) : Type 0 where
  pub few : length list ≤ 4
  pub apart : (i j : ℕ) → i < j → j < length list → slice_index (squares_of list) i ≢ slice_index (squares_of list) j

-- the fault is there, and none that stands before it is
abbrev pub IsFirstFault : PosFault → List (Man × ℕ) → Setup → Type 0
IsFirstFault MenCount list p = ¬ FitsBoard list
IsFirstFault KingCount list p = FitsBoard list × ¬ HasKings p.men
IsFirstFault PawnRank list p = FitsBoard list × HasKings p.men × ¬ PawnsFit p.men
IsFirstFault EpMismatch list p = FitsBoard list × HasKings p.men × PawnsFit p.men × ¬ FitsTarget p.men p.side p.target
IsFirstFault WaitingInCheck list p = FitsBoard list × HasKings p.men × PawnsFit p.men × FitsTarget p.men p.side p.target × IsInCheck p.men (other_side p.side)
