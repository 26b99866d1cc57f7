-- The men after a legal move: FIDE Laws of Chess 2023, articles 3.1 and 3.7.3.
use Rattle.std.specs.Prelude.{◌≡◌, ◌≢◌, ◌+◌, ◌⊎◌, ◌↔◌, Option, Some, IfSome, IsSome}
use Rattle.egt_board.specs.Prelude.{other_side, IsOccupiedBy, Setup, count_of, stands_here}
use Rattle.egt_board.specs.declared.man.Kind.TheVariants.{P, K}
use Rattle.egt_board.specs.declared.man.Man.{Man}
use Rattle.egt_moves.specs.declared.chess_move.Move.{Move}
use Rattle.egt_moves.specs.Chess.{IsPawnOn}
use Rattle.egt_moves.specs.Promotion.{IsOfficer, arriving}

-- the move captures: an enemy man stands where it arrives, or a pawn that has just passed there is taken
abbrev pub Captures : Setup → Move → Type 0
Captures p m = IsOccupiedBy p.men m.to (other_side p.side) ⊎ (IsPawnOn p.men m.from × (p.target ≡ Some m.to))

-- the men of q are those of p without the man that is taken, and with what the man that moved has become
pub record Exchanges (p : Setup) (m : Move) (q : Setup) : Type 0 where
  pub man : Man
  pub mine : man.side ≡ p.side
  pub taken : Option Man
  pub counts : (other : Man) → count_of q.men other + stands_here other taken + stands_here other (Some man) ≡ count_of p.men other + stands_here other (Some (arriving man m.promo))
  pub captures : Captures p m ↔ IsSome taken
  -- no king is taken
  pub enemy : IfSome taken (λ other. (other.side ≡ other_side p.side) × (other.kind ≢ K))
  -- a pawn is promoted, and takes no pawn on the last rank
  pub promoted : IfSome m.promo (λ kind. (man.kind ≡ P) × IsOfficer kind × IfSome taken (λ other. other.kind ≢ P))
