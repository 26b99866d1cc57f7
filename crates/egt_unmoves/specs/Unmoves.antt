-- Moves backwards: which positions a legal move, neither a capture nor a promotion, leads from (FIDE Laws of Chess 2023,
-- articles 3.1 to 3.9).
use Rattle.std.specs.Prelude.{◌≡◌, ◌≢◌, ℕ, ◌<◌, ◌↔◌, ◌⊎◌, Option, None, IsTrue}
use Rattle.egt_moves.specs.Prelude.{IsInCheck, Reaches, other_side, Advances, Placement, Stands, IsFree, Setup}
use Rattle.egt_moves.specs.Prelude.{IsAdmissible, IsSettled, SettlesTo, IsPawnOn, Captures, Leads, passed}
use Rattle.egt_board.specs.Prelude.{MayStand}
use Rattle.egt_board.specs.declared.man.Kind.TheVariants.{P}
use Rattle.egt_board.specs.declared.man.Man.{Man}
use Rattle.egt_moves.specs.declared.chess_move.Move.{Move}
use Rattle.egt_unmoves.specs.declared.unmove.Unmove.{Unmove}
use Rattle.std.specs.FinMap as map

-- the legal move m, neither a capture nor a promotion, leads from the settled position b to one that settles to q
pub record ComesBy (b : Setup) (m : Move) (q : Setup) : Type 0 where
  pub admissible : IsAdmissible b
  pub settled : IsSettled b
  pub led : Setup
  pub leads : Leads b m led
  pub no_capture : ¬ Captures b m
  pub no_promotion : m.promo ≡ None
  pub settles : SettlesTo led q

-- u takes the move back, and tells whether it is a pawn's
pub record TakesBack (u : Unmove) (m : Move) (q : Setup) : Type 0 where
  pub comes : ComesBy u.before m q
  pub pawn : IsTrue u.pawn ↔ IsPawnOn u.before.men m.from

-- u takes back some move that leads to q
abbrev pub IsUnmove : Setup → Unmove → Type 0
IsUnmove q u = (m : Move) × TakesBack u m q

-- the man that stands on the one square goes back to the other
abbrev pub men_before : Placement → Man → ℕ → ℕ → Placement
men_before men man to from = map.insert (map.remove men to) from man

-- the man, one of the side that waits, may have come to the one square from the other, as far as the board tells
pub record MayComeFrom (q : Setup) (man : Man) (to from : ℕ) : Type 0 where
  pub stands : Stands q.men to man
  pub theirs : man.side ≡ other_side q.side
  pub free : IsFree q.men from

-- the setup before, with this target
abbrev pub setup_before : Setup → Man → ℕ → ℕ → Option ℕ → Setup
setup_before q man to from target = record { men = men_before q.men man to from; side = other_side q.side; target = target }

-- what the move led to
abbrev pub led_to : Setup → Man → ℕ → ℕ → Setup
led_to q man to from = record { men = q.men; side = q.side; target = passed man from to }

-- a piece or the king reaches the square past free squares, or a pawn advances to it
abbrev pub GoesOver : Placement → Man → ℕ → ℕ → Type 0
GoesOver men man from to = ((man.kind ≢ P) × Reaches (IsFree men) man from to) ⊎ ((man.kind ≡ P) × Advances (IsFree men) man.side from to)

-- the man went from a square to this one, where the side that waited then is not in check, and what that led to settles
-- to this
pub record Went (q : Setup) (man : Man) (to from : ℕ) : Type 0 where
  pub within : from < 64
  pub free : IsFree q.men from
  pub fits : MayStand man from
  pub goes : GoesOver (men_before q.men man to from) man from to
  pub quiet : ¬ IsInCheck (men_before q.men man to from) q.side
  pub settles : SettlesTo (led_to q man to from) q

-- the man may have gone so, if it is a pawn that advances, or a piece or king and there is no target
pub record MayHaveLeft (q : Setup) (man : Man) (to from : ℕ) : Type 0 where
  pub free : IsFree q.men from
  pub quiet : ¬ IsInCheck (men_before q.men man to from) q.side
  pub reaches : man.kind ≢ P → Reaches (IsFree (men_before q.men man to from)) man from to
