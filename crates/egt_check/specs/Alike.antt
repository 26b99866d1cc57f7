-- Positions whose steps lead to images of one another.
use Rattle.std.specs.Prelude.{◌↔◌}
use Rattle.egt_moves.specs.Prelude.{AreImages, Setup, chess}

-- each step from p has its like from p', to an image
abbrev pub HasImageSteps : Setup → Setup → Type 0
HasImageSteps p p' = (q : Setup) (m : chess.Move p q) → (q' : Setup) × (m' : chess.Move p' q') × (chess.Zeroes p q m ↔ chess.Zeroes p' q' m') × AreImages q q'

pub record StepAlike (p p' : Setup) : Type 0 where
  pub checkmate : chess.Checkmate p ↔ chess.Checkmate p'
  pub there : HasImageSteps p p'
  pub back : HasImageSteps p' p
