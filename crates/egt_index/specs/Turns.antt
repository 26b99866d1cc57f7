-- The turns of a position by number, and the least code of what they make of it.
use Rattle.std.specs.Prelude.{◌≡◌, ℕ, ◌/◌, ◌%◌, ◌<◌, ◌≤◌, ◌==◌, ◌⊎◌, Bool, IsTrue, min, Option, Some, None}
use Rattle.egt_board.specs.Prelude.{Setup, KeepsPlay, IsTurnedBy}
use Rattle.egt_class.specs.Prelude.{has_equal_sides}
use Rattle.egt_index.specs.Code.{Spells}
use Rattle.egt_index.specs.Picked.{IsLeastCode}

-- the eight symmetries, and then these with colours exchanged
abbrev pub IsTurn : ℕ → Setup → Setup → Type 0
IsTurn t p q = KeepsPlay (t % 8) p.men × IsTurnedBy (t % 8) (t / 8 == 1) p q

-- the least code of what the turn makes of p, or that it makes nothing that has one
pub record TurnCode (c : ℕ) (p : Setup) (t code : ℕ) : Type 0 where
  pub image : Setup
  pub turned : IsTurn t p image
  pub coded : IsLeastCode c image code

abbrev pub CodeAfter : ℕ → Setup → ℕ → Option ℕ → Type 0
CodeAfter c p t None = (q : Setup) (code : ℕ) → IsTurn t p q → ¬ Spells c code q
CodeAfter c p t (Some code) = TurnCode c p t code

-- the least code of what the turns below k make of p
pub record BestOf (c : ℕ) (p : Setup) (k code : ℕ) : Type 0 where
  pub turn : ℕ
  pub below : turn < k
  pub image : Setup
  pub turned : IsTurn turn p image
  pub spells : Spells c code image
  pub least : (t : ℕ) (q : Setup) (other : ℕ) → t < k → IsTurn t p q → Spells c other q → code ≤ other

abbrev pub Best : ℕ → Setup → ℕ → Option ℕ → Type 0
Best c p k None = (t : ℕ) (q : Setup) (code : ℕ) → t < k → IsTurn t p q → ¬ Spells c code q
Best c p k (Some code) = BestOf c p k code

-- the lesser of two codes, if there are any
abbrev pub lesser : Option ℕ → Option ℕ → Option ℕ
lesser least None = least
lesser None (Some code) = Some code
lesser (Some least) (Some code) = Some (min least code)

-- what a turn makes of a position in these colours is in the class's: it exchanges them where they are flipped, or both sides have
-- the same men
abbrev pub IsInColours : ℕ → Bool → Bool → Type 0
IsInColours c flipped turns = IsTrue (has_equal_sides c) ⊎ (turns ≡ flipped)
