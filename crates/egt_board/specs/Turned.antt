-- Setups turned by one of the eight symmetries of the board and then, where asked, with colours exchanged.
use Rattle.std.specs.Prelude.{◌≡◌, ℕ, zero, suc, ◌<◌, ◌/◌, ◌%◌, ◌==◌, Bool, true, false, if◌then◌else◌, Option, Some, None}
use Rattle.std.specs.Option.{option_map}
use Rattle.std.specs.FinMap as map
use Rattle.egt_board.specs.declared.mirror.Mirror.{Mirror}
use Rattle.egt_board.specs.declared.mirror.Mirror.TheVariants.{Files, Ranks, Diagonal, Colours}
use Rattle.egt_board.specs.declared.man.Side.{Side}
use Rattle.egt_board.specs.declared.man.Man.{Man}
use Rattle.egt_board.specs.Placement.{Placement, Stands}
use Rattle.egt_board.specs.Setup.{Setup}
use Rattle.egt_board.specs.Mirror.{square_by, side_by, man_by, IsMirrored}
use Rattle.egt_board.specs.Symmetry.{square_if, square_of, IsImage}

-- q is the image of p under the symmetry of that number, with colours exchanged where `flipped`
abbrev pub IsTurnedBy : ℕ → Bool → Setup → Setup → Type 0
IsTurnedBy n false p q = IsImage n p q
IsTurnedBy n true p q = (r : Setup) × IsImage n p r × IsMirrored Colours r q

-- what squares, men and sides become
abbrev pub turned_square : ℕ → Bool → ℕ → ℕ
turned_square n flipped s = square_if flipped Colours (square_of n s)

abbrev pub turned_man : Bool → Man → Man
turned_man flipped man = if flipped then man_by Colours man else man

abbrev pub turned_side : Bool → Side → Side
turned_side flipped side = if flipped then side_by Colours side else side

-- each man of p, the side to move and the target, where the turn takes them
pub record IsSetBy (n : ℕ) (flipped : Bool) (p q : Setup) : Type 0 where
  pub men : (t : ℕ) → t < 64 → map.get q.men (turned_square n flipped t) ≡ option_map (turned_man flipped) (map.get p.men t)
  pub side : q.side ≡ turned_side flipped p.side
  pub target : q.target ≡ option_map (turned_square n flipped) p.target
  pub on_board : (s : ℕ) (man : Man) → Stands q.men s man → s < 64

-- a man put on the square, if there is one
unfoldable pub put_some : Placement → ℕ → Option Man → Placement
put_some men s None = men
put_some men s (Some man) = map.insert men s man

-- the men of the squares below n, in the mirror
unfoldable pub men_below : Mirror → Placement → ℕ → Placement
men_below m men zero = map.empty
men_below m men (suc n) = put_some (men_below m men n) (square_by m n) (option_map (man_by m) (map.get men n))

-- the men of the board
unfoldable pub men_by : Mirror → Placement → Placement
men_by m men = men_below m men 64

-- the setup in the mirror
abbrev pub setup_by : Mirror → Setup → Setup
setup_by m p = record { men = men_by m p.men; side = side_by m p.side; target = option_map (square_by m) p.target }

-- or as it is
unfoldable pub setup_if : Bool → Mirror → Setup → Setup
setup_if true m p = setup_by m p
setup_if false m p = p

-- the setup turned
unfoldable pub turned_by : ℕ → Bool → Setup → Setup
turned_by n flipped p = setup_if flipped Colours (setup_if (n / 4 == 1) Diagonal (setup_if (n / 2 % 2 == 1) Ranks (setup_if (n % 2 == 1) Files p)))
