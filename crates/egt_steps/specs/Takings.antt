-- Captures that promote no pawn and are not in passing, and the men after those of a side.
use Rattle.std.specs.Prelude.{◌≡◌, ◌≢◌, ℕ, ◌<◌, ◌⊎◌, Bool, if◌then◌else◌, [], ◌∷◌, Some, None}
use Rattle.egt_index.specs.Prelude.{king_of, Reaches, other_side, Setup, turned_man, material_of, IsOf, AreNonKings}
use Rattle.egt_index.specs.Prelude.{men_in_order}
use Rattle.egt_board.specs.Prelude.{IsOccupiedBy}
use Rattle.egt_board.specs.declared.man.Man.{Man}
use Rattle.egt_board.specs.declared.man.Side.{Side}
use Rattle.egt_board.specs.declared.man.Side.TheVariants.{White, Black}
use Rattle.egt_index.specs.declared.shelf_codes.ShelfMen.{ShelfMen}
use Rattle.egt_index.specs.declared.stand.Stand.{Stand}
use Rattle.egt_moves.specs.declared.chess_move.Move.{Move}
use Rattle.egt_steps.specs.Stands.{IsBesideKing, with_king}

-- the move takes the man of the other side who stands where it arrives, and promotes nothing
abbrev pub IsPlainCapture : Setup → Move → Type 0
IsPlainCapture p m = IsOccupiedBy p.men m.to (other_side p.side) × (m.promo ≡ None)

-- who is left beside the kings after a capture, and where they stand
pub record Left : Type 0 where
  pub white : ℕ
  pub black : ℕ
  pub man : Man
  pub square : ℕ

-- the kings where they were, and this man
abbrev pub left_of : ShelfMen → Man → ℕ → Left
left_of men man s = record { white = men.white; black = men.black; man = man; square = s }

-- the men of a class of three as its codes name them, in colours exchanged where `flips`
abbrev pub stand_left : Bool → Left → Stand
stand_left flips left = record {
  white = if flips then left.black else left.white;
  black = if flips then left.white else left.black;
  first = Some (turned_man flips left.man, left.square);
  last = None;
}

-- past the kings alone
abbrev pub IsPastKings : ShelfMen → ℕ → Type 0
IsPastKings men u = (u ≢ men.white) × (u ≢ men.black)

-- what such a capture by that side leaves, where the first man beside the kings stands on a and the last on b: the king takes the first or the last, the first takes the last, or the last
-- the first
abbrev pub IsTaken : ShelfMen → Side → (a b : ℕ) → Left → Type 0
IsTaken men side a b left =
    ((men.first.side ≡ other_side side) × IsBesideKing men side a × (left ≡ left_of (with_king men side a) men.last b))
    ⊎ ((men.last.side ≡ other_side side) × IsBesideKing men side b × (left ≡ left_of (with_king men side b) men.first a))
    ⊎ ((men.first.side ≡ side) × (men.last.side ≡ other_side side) × Reaches (IsPastKings men) men.first a b × (left ≡ left_of men men.first b))
    ⊎ ((men.last.side ≡ side) × (men.first.side ≡ other_side side) × Reaches (IsPastKings men) men.last b a × (left ≡ left_of men men.last a))

-- the class of three men with this one, who is its own in colours exchanged where `flips`
pub record IsClassOf (d : ℕ) (flips : Bool) (man : Man) : Type 0 where
  pub below : d < 36
  pub of : (p : Setup) → AreNonKings p (Some man) None → IsOf d flips p
  pub order : men_in_order (material_of d) ≡ king_of White ∷ king_of Black ∷ turned_man flips man ∷ []
