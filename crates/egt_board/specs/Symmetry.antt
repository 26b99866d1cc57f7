-- The symmetries of the board by number, and positions under them.
use Rattle.std.specs.Prelude.{◌≡◌, ℕ, ◌<◌, ◌⊎◌, ◌/◌, ◌%◌, ◌==◌, Bool, if◌then◌else◌}
use Rattle.std.specs.Option.{option_map}
use Rattle.std.specs.FinMap as map
use Rattle.egt_board.specs.declared.man.Man.{Man}
use Rattle.egt_board.specs.declared.mirror.Mirror.{Mirror}
use Rattle.egt_board.specs.declared.mirror.Mirror.TheVariants.{Files, Ranks, Diagonal, Colours}
use Rattle.egt_board.specs.Mirror.{square_by}
use Rattle.egt_board.specs.Placement.{Placement, Stands}
use Rattle.egt_board.specs.Pawn.{HasNoPawn}
use Rattle.egt_board.specs.Setup.{Setup}

abbrev pub square_if : Bool → Mirror → ℕ → ℕ
square_if turns mirror s = if turns then square_by mirror s else s

-- first the files where the number has the bit 1, then the ranks where it has the bit 2, then files and ranks are
-- exchanged where it has the bit 4
abbrev pub square_of : ℕ → ℕ → ℕ
square_of n s = square_if (n / 4 == 1) Diagonal (square_if (n / 2 % 2 == 1) Ranks (square_if (n % 2 == 1) Files s))

-- a mirror that leaves colours as they are
abbrev pub IsKeepingSides : Mirror → Type 0
IsKeepingSides Files = Unit {0}
IsKeepingSides Ranks = Unit {0}
IsKeepingSides Diagonal = Unit {0}
IsKeepingSides Colours = ⊥

-- the symmetry of that number keeps legal play: without pawns any does, with pawns the identity and the mirror of files
abbrev pub KeepsPlay : ℕ → Placement → Type 0
KeepsPlay n men = HasNoPawn men ⊎ (n < 2)

-- q is p with each man, and the target, on the square that f gives
pub record IsCarried (f : ℕ → ℕ) (p q : Setup) : Type 0 where
  pub men : (t : ℕ) → t < 64 → map.get q.men (f t) ≡ map.get p.men t
  pub side : q.side ≡ p.side
  pub target : q.target ≡ option_map f p.target
  pub on_board : (s : ℕ) (man : Man) → Stands q.men s man → s < 64

abbrev pub IsTurned : Mirror → Bool → Setup → Setup → Type 0
IsTurned mirror turns p q = IsCarried (square_if turns mirror) p q

-- q is the image of p under the symmetry of that number
abbrev pub IsImage : ℕ → Setup → Setup → Type 0
IsImage n p q = IsCarried (square_of n) p q
