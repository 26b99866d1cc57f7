-- A block holds: a number for each square of the first man beside the kings and of the last.
use Rattle.std.specs.Prelude.{ℕ, ◌+◌, ◌/◌, ◌%◌, ◌<◌, ◌==◌, Bool, false}
use Rattle.egt_index.specs.Prelude.{turned_side, turned_square, other_side, material_of, IsTurnWith, kind_digits}
use Rattle.egt_index.specs.Prelude.{kind_less, IsShelfOf, IsWithin, has_pawns, TellsMen, turned_by}
use Rattle.egt_steps.specs.Prelude.{stand_on, with_king}
use Rattle.egt_lanes.specs.Prelude.{IsRaised}
use Rattle.egt_board.specs.declared.man.Side.{Side}
use Rattle.egt_index.specs.TurnedMen.{IsSomeTurnedCode}
use Rattle.egt_index.specs.declared.shelf_codes.ShelfMen.{ShelfMen}
use Rattle.egt_index.specs.declared.stand.Stand.{Stand}
use Rattle.egt_steps.specs.Stands.{men_on}

-- the men with the kings on these squares
abbrev pub with_kings : ShelfMen → (white black : ℕ) → ShelfMen
with_kings men white black = record { white = white; black = black; first = men.first; on = men.on; last = men.last }

-- the men where the turn takes them, the first one from this square
abbrev pub turned_from : ShelfMen → (on turn : ℕ) → ShelfMen
turned_from men on turn = record {
  white = turned_square (turn % 8) (turn / 8 == 1) men.white;
  black = turned_square (turn % 8) (turn / 8 == 1) men.black;
  first = men.first;
  on = turned_square (turn % 8) (turn / 8 == 1) on;
  last = men.last;
}

-- the men of a class whose sides have the same, seen with colours exchanged
abbrev pub men_across : ShelfMen → ShelfMen
men_across men = record { white = men.black; black = men.white; first = men.first; on = men.on; last = men.last }

-- the code tells the men where the turn takes them, and a target where one was passed
abbrev pub IsCodeAfter : (targeted : Bool) (c t code : ℕ) → Stand → Side → Type 0
IsCodeAfter targeted c t code stand side = TellsMen targeted c code (turned_by t stand) (turned_side (t / 8 == 1) side)

-- where some turn of the class takes them, one that exchanges colours so
abbrev pub IsHomeCode : (targeted : Bool) (c code : ℕ) (flips : Bool) → Stand → Side → Type 0
IsHomeCode targeted c code flips stand side = (t : ℕ) × IsTurnWith (has_pawns (material_of c)) flips t × IsCodeAfter targeted c t code stand side

-- the number raised to the scores of the codes of this turn
abbrev pub IsRaisedAfter : (targeted : Bool) → (c : ℕ) → (worth : ℕ → ℕ) → ℕ → Stand → Side → (low high : ℕ) → Type 0
IsRaisedAfter targeted c worth turn stand side low high = IsRaised low (λ code. IsCodeAfter targeted c turn code stand side) worth high

-- the number raised to the scores of the codes of all such turns
abbrev pub IsRaisedHome : (targeted : Bool) → (c : ℕ) → (worth : ℕ → ℕ) → Bool → Stand → Side → (low high : ℕ) → Type 0
IsRaisedHome targeted c worth flips stand side low high = IsRaised low (λ code. IsHomeCode targeted c code flips stand side) worth high

-- codes of the men with that side's king on one of these squares, wherever turns take them, the other side to move
abbrev pub AreKingCodes : (c : ℕ) (men : ShelfMen) (side : Side) (In : ℕ → Type 0) (a b code : ℕ) → Type 0
AreKingCodes c men side In a b code = (k : ℕ) × In k × IsSomeTurnedCode c code false (stand_on (with_king men side k) a b) (other_side side)

-- the shelves from this one on are those of the men with the first one on the squares of his digits
abbrev pub AreShelvesOf : (targeted : Bool) (c : ℕ) → ShelfMen → (first : ℕ) → Type 0
AreShelvesOf targeted c men first = (d : ℕ) → d < kind_digits men.first.kind → IsShelfOf targeted c (first + d) (men_on men (d + kind_less men.first.kind)) × IsWithin c (first + d)
