-- The men of a shelf of numbers: the same men in all of its codes but for the last man's square.
use Rattle.std.specs.Prelude.{◌≡◌, ◌≢◌, ◌↔◌, ℕ, ◌+◌, ◌*◌, ◌/◌, ◌<◌, ◌≤◌, Bool, true, false, if◌then◌else◌, [], ◌∷◌, Some}
use Rattle.egt_board.specs.Prelude.{bit_at, king_of, side_number, MayStand, IsSettled, Setup}
use Rattle.egt_class.specs.Prelude.{material_of}
use Rattle.egt_board.specs.declared.man.Side.{Side}
use Rattle.egt_board.specs.declared.man.Side.TheVariants.{White, Black}
use Rattle.egt_index.specs.Code.{Spells}
use Rattle.egt_index.specs.Prefix.{TellsLast}
use Rattle.egt_index.specs.Home.{IsAtHome}
use Rattle.egt_index.specs.Index.{IsVoid}
use Rattle.egt_index.specs.Numbers.{code_of, half_of, places}
use Rattle.egt_index.specs.Shelf.{row_len}
use Rattle.egt_index.specs.Scales.{kind_digits, kind_less}
use Rattle.egt_class.specs.Size.{has_pawns, has_target, men_in_order, size_of}
use Rattle.egt_index.specs.Spelled.{Ends}
use Rattle.egt_index.specs.TellsMen.{TellsMen}
use Rattle.egt_index.specs.Stood.{Entry}
use Rattle.egt_index.specs.declared.places.Places.{Places}
use Rattle.egt_index.specs.declared.shelf_codes.ShelfMen.{ShelfMen}
use Rattle.egt_index.specs.declared.stand.Stand.{Stand}

-- the men with the last one on the square
abbrev pub stand_with : ShelfMen → ℕ → Stand
stand_with men s = record { white = men.white; black = men.black; first = Some (men.first, men.on); last = Some (men.last, s) }

-- the shelf's number with that side to move and this digit of the last man
abbrev pub number_in : (c shelf : ℕ) → Side → ℕ → ℕ
number_in c shelf side digit = shelf * (2 * places c) + side_number side + 2 * digit

-- they are the class's men
pub record AreMenOf (c : ℕ) (men : ShelfMen) : Type 0 where
  pub are : king_of White ∷ king_of Black ∷ men.first ∷ men.last ∷ [] ≡ men_in_order (material_of c)
  pub one_beside : men.first ≢ king_of White
  pub last_beside : men.last ≢ king_of White

-- the class has two men beside the kings
abbrev pub HasTwoBeside : ℕ → Type 0
HasTwoBeside c = (men : ShelfMen) × AreMenOf c men

-- the numbers of the shelf stand for codes that tell them, and the last one by his digit; `targeted` tells whether its positions have a target
pub record IsShelf (c shelf : ℕ) (men : ShelfMen) : Type 0 where
  pub men_of : AreMenOf c men
  pub len : places c ≡ kind_digits men.last.kind
  pub targeted : Bool
  pub tells : (side : Side) (digit : ℕ) → digit < kind_digits men.last.kind → TellsMen targeted c (code_of c (number_in c shelf side digit)) (stand_with men (digit + kind_less men.last.kind)) side

abbrev pub IsShelfOf : (targeted : Bool) (c shelf : ℕ) → ShelfMen → Type 0
IsShelfOf targeted c shelf men = (is : IsShelf c shelf men) × (is.targeted ≡ targeted)

-- the shelf is one of the class's
abbrev pub IsWithin : (c shelf : ℕ) → Type 0
IsWithin c shelf = (shelf + 1) * (2 * places c) ≤ size_of c

-- the shelf is the one behind the prefix with this number, of positions with a target or without
pub record IsShelfBehind (targeted : Bool) (c shelf high : ℕ) : Type 0 where
  pub first : shelf * (2 * places c) ≡ high * (2 * places c) + (if targeted then half_of c else 0)
  pub within : (high + 1) * (2 * places c) ≤ half_of c
  pub may : has_target (material_of c) ≡ false → targeted ≡ false

-- some shelf has these men, of positions with a target where one was passed: the white king is at home, the man who stands still may stand where he does,
-- and the class has targets where one was passed
pub record HasShelf (targeted : Bool) (c : ℕ) (men : ShelfMen) : Type 0 where
  pub home : IsAtHome (has_pawns (material_of c)) men.white
  pub stands : MayStand men.first men.on
  pub may : has_target (material_of c) ≡ false → targeted ≡ false

-- the bits are of every other number from `first` on: 1 exactly where the code of the number is a position's index
abbrev pub AreIndexed : (c first bits : ℕ) → Type 0
AreIndexed c first bits = (k : ℕ) → bit_at bits k ≡ 1 ↔ ((k < places c) × ¬ IsVoid c (code_of c (first + 2 * k)))

-- so are those of a shelf, by the side to move
pub record AreIndexes (c shelf : ℕ) (found : Places) : Type 0 where
  pub white : AreIndexed c (shelf * (2 * places c)) found.white
  pub black : AreIndexed c (shelf * (2 * places c) + 1) found.black

-- none of the codes behind these men spells a position
abbrev pub SpellsNothing : (c high : ℕ) → Type 0
SpellsNothing c high = (n : ℕ) (last : Entry) (code : ℕ) (p : Setup) → TellsLast c n high last → code / row_len c ≡ n → ¬ Spells c code p

-- none of the codes behind these men that tell of a target spells a settled position
abbrev pub PassesNothing : (c high : ℕ) → Type 0
PassesNothing c high = (n : ℕ) (last : Entry) (code : ℕ) (side : Side) (p : Setup) → TellsLast c n high last → Ends (material_of c) code n side true → Spells c code p → ¬ IsSettled p
