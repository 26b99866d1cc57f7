-- Codes that some image of a position beats: the image has a code that is less.
use Rattle.std.specs.Prelude.{◌≡◌, ◌≢◌, ℕ, ◌/◌, ◌%◌, ◌<◌, ◌≤◌, ◌==◌, Bool, false, [], ◌∷◌, Some, None, IfSome}
use Rattle.egt_board.specs.Prelude.{Setup, KeepsPlay, turned_square}
use Rattle.egt_class.specs.Prelude.{material_of}
use Rattle.egt_board.specs.declared.man.Side.{Side}
use Rattle.egt_board.specs.declared.man.Man.{Man}
use Rattle.egt_index.specs.Code.{Spells, men_at}
use Rattle.egt_index.specs.Home.{BringsHome}
use Rattle.egt_class.specs.Size.{has_pawns, men_beside}
use Rattle.egt_index.specs.Stood.{Entry, HasStand, list_of}
use Rattle.egt_index.specs.Turns.{IsTurn}
use Rattle.egt_index.specs.declared.stand.Stand.{Stand}

-- the code spells p by the digits of the men on these squares
pub record SpellsAt (c code : ℕ) (stand : Stand) (p : Setup) : Type 0 where
  pub spells : Spells c code p
  pub list_is : list_of stand ≡ men_at (material_of c) spells.digits

-- what the turn makes of p has a code that is less
pub record Beats (c : ℕ) (p : Setup) (t code : ℕ) : Type 0 where
  pub image : Setup
  pub turned : IsTurn t p image
  pub other : ℕ
  pub spells : Spells c other image
  pub less : other < code

-- or none that is
abbrev pub Keeps : ℕ → Setup → ℕ → ℕ → Type 0
Keeps c p t code = (q : Setup) (other : ℕ) → IsTurn t p q → Spells c other q → code ≤ other

-- nor has what any turn makes of p that exchanges colours so
abbrev pub KeepsWith : ℕ → Setup → Bool → ℕ → Type 0
KeepsWith c p flips code = (t : ℕ) → t < 16 → (t / 8 == 1) ≡ flips → Keeps c p t code

-- some turn's image has a code that is less
abbrev pub IsBeaten : ℕ → Setup → ℕ → Type 0
IsBeaten c p code = (t : ℕ) × (t < 16) × Beats c p t code

-- equal men, the first on the greater square
abbrev pub AreBehind : Entry → Entry → Type 0
AreBehind None y = ⊥
AreBehind (Some x) None = ⊥
AreBehind (Some x) (Some y) = (x.0 ≡ y.0) × (y.1 < x.1)

-- what holds of each position with these men on their squares and of a code by which they spell it
abbrev pub AllSpelled : ℕ → Stand → (Setup → ℕ → Type 0) → Type 0
AllSpelled c stand Holds = (p : Setup) (side : Side) (targeted : Bool) (code : ℕ) → HasStand c false stand side targeted p → SpellsAt c code stand p → Holds p code

-- the kings stand on these squares
abbrev pub HasKingsOn : (white black : ℕ) → Stand → Type 0
HasKingsOn white black stand = (stand.white ≡ white) × (stand.black ≡ black)

-- these two stand beside the kings, this one the first
abbrev pub IsFirstOfTwo : ℕ → Man → Type 0
IsFirstOfTwo c man = (last : Man) × (men_beside (material_of c) ≡ man ∷ last ∷ []) × (man ≢ last)

-- and the first man on his, where he is known
abbrev pub HasPrefix : (white black : ℕ) → Entry → Stand → Type 0
HasPrefix white black first stand = HasKingsOn white black stand × IfSome first (λ e. stand.first ≡ Some e)

-- the first man is known, and the turn, which exchanges no colours, takes him so far
abbrev pub IfMoved : Entry → ℕ → (ℕ → ℕ → Type 0) → Type 0
IfMoved None t Holds = ⊥
IfMoved (Some e) t Holds = (t < 8) × Holds e.1 (turned_square (t % 8) (t / 8 == 1) e.1)

-- what the turn makes of each position with these men, where it brings the king home, has a lesser code
abbrev pub TurnBeats : ℕ → Stand → ℕ → Type 0
TurnBeats c stand t = (p : Setup) (side : Side) (targeted : Bool) (code : ℕ) → HasStand c (t / 8 == 1) stand side targeted p → KeepsPlay (t % 8) p.men
    → BringsHome (has_pawns (material_of c)) (t / 8 == 1) stand.white t → Spells c code p → Beats c p t code

-- or none that is less
abbrev pub TurnKeeps : ℕ → Stand → ℕ → Type 0
TurnKeeps c stand t = (p : Setup) (side : Side) (targeted : Bool) (code : ℕ) → HasStand c (t / 8 == 1) stand side targeted p → KeepsPlay (t % 8) p.men
    → Spells c code p → Keeps c p t code
