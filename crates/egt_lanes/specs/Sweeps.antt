-- Steps along which what is reached is carried from square to square.
use Rattle.std.specs.Prelude.{ℕ, ◌<◌, ◌≤◌, Bool, true, false}
use Rattle.egt_board.specs.Step.{Away}
use Rattle.egt_board.specs.declared.step.Step.{Step}

-- t has the greater number, or the lesser
abbrev pub IsAhead : (upward : Bool) → (s t : ℕ) → Type 0
IsAhead true s t = s < t
IsAhead false s t = t < s

-- a step of one square along a file, a rank or a diagonal, to greater numbers or to lesser ones
pub record IsRay (d : Step) (upward : Bool) : Type 0 where
  pub wide : d.wide < 8
  pub high : d.high < 8
  pub near : (k s t : ℕ) → s < 64 → Away d k s t → k ≤ 7
  pub order : (s t : ℕ) → s < 64 → Away d 1 s t → IsAhead upward s t
