-- Positions of which the one is the other in a mirror, or in several.
use Rattle.std.specs.Prelude.{◌≡◌, ℕ, ◌/◌, ◌%◌, ◌==◌, Bool, true, false}
use Rattle.egt_board.specs.declared.mirror.Mirror.{Mirror}
use Rattle.egt_board.specs.declared.mirror.Mirror.TheVariants.{Files, Ranks, Diagonal, Colours}
use Rattle.egt_board.specs.Setup.{Setup, IsAdmissible}
use Rattle.egt_board.specs.Mirror.{IsMirrored, Allows}

-- p' is p in the mirror, one that p's men allow, and both are admissible
pub record AreMirrored (mirror : Mirror) (p p' : Setup) : Type 0 where
  pub here : IsAdmissible p
  pub there : IsAdmissible p'
  pub mirrored : IsMirrored mirror p p'
  pub allowed : Allows mirror p.men

-- or, where it is not taken, the same
abbrev pub AreMirroredIf : Bool → Mirror → Setup → Setup → Type 0
AreMirroredIf true mirror p p' = AreMirrored mirror p p'
AreMirroredIf false mirror p p' = p ≡ p'

-- the mirrors of the turn of that number, each taken or not, lead from p to q
pub record ComesByMirrors (n : ℕ) (flipped : Bool) (p q : Setup) : Type 0 where
  pub first : Setup
  pub second : Setup
  pub third : Setup
  pub files : AreMirroredIf (n % 2 == 1) Files p first
  pub ranks : AreMirroredIf (n / 2 % 2 == 1) Ranks first second
  pub diagonal : AreMirroredIf (n / 4 == 1) Diagonal second third
  pub colours : AreMirroredIf flipped Colours third q
