-- The turns that bring a king home: to a square of the white king's digit.
use Rattle.std.specs.Prelude.{◌≡◌, ◌≢◌, ℕ, ◌<◌, ◌≤◌, ◌/◌, ◌%◌, ◌==◌, Bool, if◌then◌else◌, Option, Some, None, IfSome}
use Rattle.egt_board.specs.Prelude.{Setup, turned_square}
use Rattle.egt_index.specs.Code.{Spells, king_square}
use Rattle.egt_class.specs.Size.{king_base}
use Rattle.egt_index.specs.Turns.{IsTurn}

-- how many symmetries keep play
abbrev pub symmetries : Bool → ℕ
symmetries pawns = if pawns then 2 else 8

-- a turn that exchanges colours where `flips`
pub record IsTurnWith (pawns flips : Bool) (t : ℕ) : Type 0 where
  pub below : t < 16
  pub flips_is : (t / 8 == 1) ≡ flips
  pub keeps : t % 8 < symmetries pawns

-- the turn brings the king home
abbrev pub BringsHome : Bool → Bool → ℕ → ℕ → Type 0
BringsHome pawns flips king t = (d : ℕ) × (d < king_base pawns) × (king_square pawns d ≡ turned_square (t % 8) flips king)

-- the king is there, so that the turn that changes nothing brings him home
abbrev pub IsAtHome : Bool → ℕ → Type 0
IsAtHome pawns king = (d : ℕ) × (d < king_base pawns) × (king_square pawns d ≡ king)

-- these one or two turns do so, and no other
pub record AreHome (pawns flips : Bool) (king first : ℕ) (second : Option ℕ) : Type 0 where
  pub one : IsTurnWith pawns flips first
  pub other : IfSome second (IsTurnWith pawns flips)
  pub brings : BringsHome pawns flips king first
  pub other_brings : IfSome second (BringsHome pawns flips king)
  pub none : (t : ℕ) → IsTurnWith pawns flips t → t ≢ first → IfSome second (λ u. t ≢ u) → (d : ℕ) → d < king_base pawns → king_square pawns d ≢ turned_square (t % 8) flips king

-- the least code of what the turns that exchange colours so make of p
pub record FlipCode (c : ℕ) (p : Setup) (flips : Bool) (code : ℕ) : Type 0 where
  pub turn : ℕ
  pub below : turn < 16
  pub image : Setup
  pub turned : IsTurn turn p image
  pub spells : Spells c code image
  pub least : (t : ℕ) (q : Setup) (other : ℕ) → (t / 8 == 1) ≡ flips → t < 16 → IsTurn t p q → Spells c other q → code ≤ other

abbrev pub LeastWith : ℕ → Setup → Bool → Option ℕ → Type 0
LeastWith c p flips None = (t : ℕ) (q : Setup) (code : ℕ) → (t / 8 == 1) ≡ flips → t < 16 → IsTurn t p q → ¬ Spells c code q
LeastWith c p flips (Some code) = FlipCode c p flips code
