-- Which codes of a shelf are positions' indexes, and where the last man of a position may stand.
use Rattle.std.specs.Prelude.{◌≡◌, ◌≢◌, ◌↔◌, ℕ, ◌+◌, ◌<◌, Bool, true, false, Some}
use Rattle.egt_board.specs.Prelude.{bit_at, king_of, IsFree, IsKeptFrom, Setup}
use Rattle.egt_class.specs.Prelude.{material_of}
use Rattle.egt_board.specs.declared.man.Man.{Man}
use Rattle.egt_board.specs.declared.man.Side.{Side}
use Rattle.egt_board.specs.declared.man.Side.TheVariants.{White, Black}
use Rattle.egt_index.specs.Prefix.{IsPrefix}
use Rattle.egt_index.specs.Index.{IsVoid}
use Rattle.egt_index.specs.Scales.{kind_digits, kind_less}
use Rattle.egt_index.specs.Shelf.{last_of}
use Rattle.egt_class.specs.Size.{men_beside}
use Rattle.egt_index.specs.Stood.{Entry, HasStand, IsInOrder, with_last}
use Rattle.egt_index.specs.declared.prefix.Prefix.{Prefix}
use Rattle.egt_index.specs.declared.places.Places.{Places}
use Rattle.egt_index.specs.declared.stand.Stand.{Stand}

-- the answer is right whether the code is a position's index
pub record TellsIndex (there : Bool) (c code : ℕ) : Type 0 where
  pub node : there ≡ true → ¬ IsVoid c code
  pub void : there ≡ false → IsVoid c code

-- the square of the king of the side that waits
abbrev pub waiting : Side → Stand → ℕ
waiting White stand = stand.black
waiting Black stand = stand.white

-- the last man may stand on the square of the digit, and leaves the king of the side that waits unattacked
pub record IsPlaced (prefix : Prefix) (man : Man) (mover : Side) (k : ℕ) : Type 0 where
  pub below : k < kind_digits man.kind
  pub free : IsFree prefix.board (k + kind_less man.kind)
  pub kept : IsKeptFrom prefix.board (k + kind_less man.kind) man (waiting mover prefix.stand) mover

-- the prefix is one of the class's, and the man the last one behind it
pub record IsPrefixBefore (c : ℕ) (prefix : Prefix) (man : Man) : Type 0 where
  pub last : last_of (men_beside (material_of c)) ≡ Some man
  pub other : man ≢ king_of White
  pub high : ℕ
  pub is : IsPrefix c high prefix

-- the last man, on the square of the digit, makes a settled position with the men before him, with that side to move and a target where one was passed
pub record IsMade (targeted : Bool) (c : ℕ) (stand : Stand) (man : Man) (mover : Side) (k : ℕ) : Type 0 where
  pub below : k < kind_digits man.kind
  pub position : Setup
  pub has : HasStand c false (with_last stand (Some (man, k + kind_less man.kind))) mover targeted position

-- the bits are of his digits: 1 exactly where he makes one
pub record AreMade (targeted : Bool) (c : ℕ) (stand : Stand) (man : Man) (found : Places) : Type 0 where
  pub white : (k : ℕ) → (bit_at found.white k ≡ 1) ↔ IsMade targeted c stand man White k
  pub black : (k : ℕ) → (bit_at found.black k ≡ 1) ↔ IsMade targeted c stand man Black k

-- of all these digits of his those by which two equal men are in order
pub record AreInOrder (next : Entry) (man : Man) (all found : Places) : Type 0 where
  pub white : (k : ℕ) → (bit_at found.white k ≡ 1) ↔ ((bit_at all.white k ≡ 1) × IsInOrder next (Some (man, k + kind_less man.kind)))
  pub black : (k : ℕ) → (bit_at found.black k ≡ 1) ↔ ((bit_at all.black k ≡ 1) × IsInOrder next (Some (man, k + kind_less man.kind)))

-- the digit is this one, which is there, and he makes a position with a target by it
pub record IsNewDigit (c : ℕ) (stand : Stand) (man : Man) (mover : Side) (there : Bool) (digit k : ℕ) : Type 0 where
  pub there_is : there ≡ true
  pub same : k ≡ digit
  pub made : IsMade true c stand man mover k

-- the rank on which pawns stand side by side where that side may take one that has just advanced
abbrev pub taking_rank : Side → ℕ
taking_rank White = 4
taking_rank Black = 3
