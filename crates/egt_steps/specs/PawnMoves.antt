-- The men after the moves of a pawn who stands beside the kings as the last of two men.
use Rattle.std.specs.Prelude.{◌≡◌, ℕ, ◌<◌, if◌then◌else◌, Bool, true, false, [], ◌∷◌, Option, Some}
use Rattle.egt_moves.specs.Prelude.{king_of, Reaches, other_side, Advances, IsOccupiedBy, Setup, Captures, FitsPromotion}
use Rattle.egt_moves.specs.Prelude.{IsOfficer, arriving, promotes}
use Rattle.egt_index.specs.Prelude.{turned_man, material_of, IsOf, AreNonKings, men_in_order, swapped}
use Rattle.egt_board.specs.declared.man.Kind.{Kind}
use Rattle.egt_board.specs.declared.man.Kind.TheVariants.{P}
use Rattle.egt_board.specs.declared.man.Man.{Man}
use Rattle.egt_board.specs.declared.man.Side.{Side}
use Rattle.egt_board.specs.declared.man.Side.TheVariants.{White, Black}
use Rattle.egt_index.specs.TurnedMen.{IsSomeTurnedCode}
use Rattle.egt_index.specs.declared.shelf_codes.ShelfMen.{ShelfMen}
use Rattle.egt_index.specs.declared.stand.Stand.{Stand}
use Rattle.egt_moves.specs.declared.chess_move.Move.{Move}
use Rattle.egt_steps.specs.Stands.{stand_on}
use Rattle.egt_steps.specs.QuietStands.{IsClear}
use Rattle.egt_steps.specs.Takings.{IsPastKings, left_of, stand_left}

-- the men on their squares, as their class names them: the last one is its first where `first`
abbrev pub stand_in : (first : Bool) → ShelfMen → (a b : ℕ) → Stand
stand_in first men a b = if first then swapped (stand_on men a b) else stand_on men a b

-- two men beside the kings, in this order, in colours exchanged where `flips`
abbrev pub stand_two : (flips : Bool) → ShelfMen → (next last : Man × ℕ) → Stand
stand_two flips men next last = record {
  white = if flips then men.black else men.white;
  black = if flips then men.white else men.black;
  first = Some (turned_man flips next.0, next.1);
  last = Some (turned_man flips last.0, last.1);
}

-- the class of four men with these two, who are its own in colours exchanged where `flips`
pub record IsClassOfTwo (d : ℕ) (flips : Bool) (next last : Man) : Type 0 where
  pub below : d < 36
  pub of : (p : Setup) → AreNonKings p (Some next) (Some last) → IsOf d flips p
  pub order : men_in_order (material_of d) ≡ king_of White ∷ king_of Black ∷ turned_man flips next ∷ turned_man flips last ∷ []

-- the last man is now this one, whom the class names before the first where `before`
abbrev pub IsClassAfter : (before : Bool) (d : ℕ) (flips : Bool) (one man : Man) → Type 0
IsClassAfter false d flips one man = IsClassOfTwo d flips one man
IsClassAfter true d flips one man = IsClassOfTwo d flips man one

-- he stands on t, and the first one on a
abbrev pub stand_after : (before flips : Bool) → ShelfMen → (a : ℕ) → Man → (t : ℕ) → Stand
stand_after false flips men a man t = stand_two flips men (men.first, a) (man, t)
stand_after true flips men a man t = stand_two flips men (man, t) (men.first, a)

-- the men of that class, these two beside the kings
abbrev pub men_two : (flips : Bool) → ShelfMen → (one last : Man) → ShelfMen
men_two flips men one last = record {
  white = if flips then men.black else men.white;
  black = if flips then men.white else men.black;
  first = turned_man flips one;
  on = men.on;
  last = turned_man flips last;
}

abbrev pub men_after : (before flips : Bool) → ShelfMen → Man → ShelfMen
men_after false flips men man = men_two flips men men.first man
men_after true flips men man = men_two flips men man men.first

-- the last man, a pawn of that side on b, advances to t, and is promoted so on the last rank
pub record IsAdvance (men : ShelfMen) (side : Side) (a b : ℕ) (promo : Option Kind) (t : ℕ) : Type 0 where
  pub pawn : men.last.kind ≡ P
  pub mine : men.last.side ≡ side
  pub advances : Advances (IsClear men a) side b t
  pub fits : FitsPromotion (promotes men.last t) promo

-- a move that is such an advance
pub record IsAdvanceFrom (p : Setup) (b : ℕ) (promo : Option Kind) (m : Move) : Type 0 where
  pub from : m.from ≡ b
  pub quiet : ¬ Captures p m
  pub promo_is : m.promo ≡ promo

-- the codes of the positions after such advances
abbrev pub AreAdvancedCodes : (d : ℕ) (before flips : Bool) → ShelfMen → Side → (promo : Option Kind) → (a b code : ℕ) → Type 0
AreAdvancedCodes d before flips men side promo a b code =
    (t : ℕ) × IsAdvance men side a b promo t × IsSomeTurnedCode d code flips (stand_after before flips men a (arriving men.last promo) t) (other_side side)

-- the last man, a pawn of that side on b, takes the first on a, on the last rank, and is promoted so
pub record IsPromotingCapture (men : ShelfMen) (side : Side) (kind : Kind) (a b : ℕ) : Type 0 where
  pub pawn : men.last.kind ≡ P
  pub mine : men.last.side ≡ side
  pub theirs : men.first.side ≡ other_side side
  pub reaches : Reaches (IsPastKings men) men.last b a
  pub last : promotes men.last a ≡ true
  pub officer : IsOfficer kind

-- a move that is such a capture
pub record IsPromotingCaptureFrom (p : Setup) (b : ℕ) (kind : Kind) (m : Move) : Type 0 where
  pub from : m.from ≡ b
  pub takes : IsOccupiedBy p.men m.to (other_side p.side)
  pub promo_is : m.promo ≡ Some kind

-- the pawn's side's man of that kind
abbrev pub officer_of : Side → Kind → Man
officer_of side kind = record { side = side; kind = kind }

-- the codes of the positions after such a capture
abbrev pub ArePromotedCodes : (d : ℕ) (flips : Bool) → ShelfMen → Side → Kind → (a b code : ℕ) → Type 0
ArePromotedCodes d flips men side kind a b code =
    IsPromotingCapture men side kind a b × IsSomeTurnedCode d code flips (stand_left flips (left_of men (officer_of side kind) a)) (other_side side)
