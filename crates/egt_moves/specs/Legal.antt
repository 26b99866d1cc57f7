-- Legal moves: FIDE Laws of Chess 2023, articles 3.1 to 3.9.
use Rattle.std.specs.Prelude.{◌≡◌, ℕ, ◌+◌, ◌/◌, ◌==◌, ◌&&◌, ◌||◌, Bool, false, if◌then◌else◌, Option, Some, None}
use Rattle.egt_board.specs.Prelude.{other_side, rank_of, Placement, Stands, ahead, IsInCheck, Setup}
use Rattle.egt_board.specs.declared.man.Man.{Man}
use Rattle.egt_moves.specs.declared.chess_move.Move.{Move}
use Rattle.egt_moves.specs.Going.{Goes}
use Rattle.egt_moves.specs.Promotion.{is_pawn, promotes, FitsPromotion, arriving}
use Rattle.std.specs.FinMap as map

-- a move that promotes nothing
abbrev pub plain : ℕ → ℕ → Move
plain from to = record { from = from; to = to; promo = None }

abbrev pub is_target : Option ℕ → ℕ → Bool
is_target None to = false
is_target (Some t) to = t == to

-- a pawn arrives on the target, and so takes the pawn that has just passed it (3.7.3.1): that pawn stands before the
-- target, so none arrives there by an advance
abbrev pub takes_in_passing : Setup → Man → ℕ → Bool
takes_in_passing p man to = is_pawn man.kind && is_target p.target to

-- the men without a pawn that is taken in passing
abbrev pub men_left : Setup → Man → ℕ → Placement
men_left p man to = if takes_in_passing p man to then map.remove p.men (ahead (other_side p.side) to) else p.men

-- the man, or what it becomes, is on its new square, and whatever stood there is gone
abbrev pub men_after : Setup → Man → Move → Placement
men_after p man m = map.insert (map.remove (men_left p man m.to) m.from) m.to (arriving man m.promo)

-- two ranks lie between
abbrev pub is_two_ranks : ℕ → ℕ → Bool
is_two_ranks s t = (rank_of t == rank_of s + 2) || (rank_of s == rank_of t + 2)

-- the square halfway, which a pawn passes in an advance of two squares
abbrev pub passed : Man → ℕ → ℕ → Option ℕ
passed man from to = if is_pawn man.kind && is_two_ranks from to then Some ((from + to) / 2) else None

-- the position after the move, the other side to move
abbrev pub after : Setup → Man → Move → Setup
after p man m = record { men = men_after p man m; side = other_side p.side; target = passed man m.from m.to }

-- the move is legal in p and leads to q
pub record Leads (p : Setup) (m : Move) (q : Setup) : Type 0 where
  pub man : Man
  pub stands : Stands p.men m.from man
  pub mine : man.side ≡ p.side
  pub goes : Goes p man m.from m.to
  pub promotion : FitsPromotion (promotes man m.to) m.promo
  pub becomes : q ≡ after p man m
  pub safe : ¬ IsInCheck q.men p.side

-- the move is legal
abbrev pub IsLegal : Setup → Move → Type 0
IsLegal p m = (q : Setup) × Leads p m q
