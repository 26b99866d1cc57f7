-- One number for all images of a position.
use Rattle.std.specs.Prelude.{ℕ, ◌≤◌}
use Rattle.egt_board.specs.Prelude.{Setup, IsAdmissible, SettlesTo, AreImages}
use Rattle.egt_index.specs.Code.{Spells}

-- the least code that spells an image of the position's settled form
pub record IsIndex (c : ℕ) (p : Setup) (i : ℕ) : Type 0 where
  pub settled : Setup
  pub settles : SettlesTo p settled
  pub image : Setup
  pub images : AreImages settled image
  pub spells : Spells c i image
  pub least : (other : Setup) (code : ℕ) → AreImages settled other → Spells c code other → i ≤ code

-- the code is no position's index
abbrev pub IsVoid : ℕ → ℕ → Type 0
IsVoid c i = (p : Setup) → IsAdmissible p → ¬ IsIndex c p i

-- the settled forms of the positions are images of one another
pub record SettleAlike (p q : Setup) : Type 0 where
  pub here : Setup
  pub there : Setup
  pub settles_here : SettlesTo p here
  pub settles_there : SettlesTo q there
  pub images : AreImages here there
