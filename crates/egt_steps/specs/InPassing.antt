-- Pawns that face each other: advances that leave a target, and captures in passing (FIDE Laws of Chess 2023, articles
-- 3.7.3.1 and 3.7.3.2). The last man beside the kings, a pawn on b, moves, and the first stands on a.
use Rattle.std.specs.Prelude.{◌≡◌, ℕ, ◌+◌, ◌⊎◌, Bool, false, true, None, Some, IfSome}
use Rattle.egt_moves.specs.Prelude.{Reaches, other_side, IsBeside, ahead, Setup, rank_of, IsOfficer}
use Rattle.egt_index.specs.Prelude.{IsSomeTurnedCodeWith}
use Rattle.egt_board.specs.declared.man.Kind.{Kind}
use Rattle.egt_board.specs.declared.man.Kind.TheVariants.{P}
use Rattle.egt_board.specs.declared.man.Side.{Side}
use Rattle.egt_index.specs.TurnedMen.{IsSomeTurnedCode}
use Rattle.egt_index.specs.declared.shelf_codes.ShelfMen.{ShelfMen}
use Rattle.egt_moves.specs.declared.chess_move.Move.{Move}
use Rattle.egt_steps.specs.PawnMoves.{IsAdvance, IsAdvanceFrom, IsPromotingCaptureFrom, stand_after}
use Rattle.egt_steps.specs.Takings.{IsPastKings, IsPlainCapture, left_of, stand_left}

abbrev pub AreTwoRanksApart : (s t : ℕ) → Type 0
AreTwoRanksApart s t = (rank_of t ≡ rank_of s + 2) ⊎ (rank_of s ≡ rank_of t + 2)

-- from b to t the pawn of that side advances by two squares, to beside the first man, a pawn of the other side, who may
-- take it in passing
pub record LeavesTarget (men : ShelfMen) (side : Side) (a b t : ℕ) : Type 0 where
  pub pawn : men.first.kind ≡ P
  pub theirs : men.first.side ≡ other_side side
  pub two : AreTwoRanksApart b t
  pub beside : IsBeside a t

-- the codes of the positions after advances that leave no target
abbrev pub AreStepCodes : (c : ℕ) (first : Bool) → ShelfMen → Side → (a b code : ℕ) → Type 0
AreStepCodes c first men side a b code =
    (t : ℕ) × IsAdvance men side a b None t × ¬ LeavesTarget men side a b t × IsSomeTurnedCode c code false (stand_after first false men a men.last t) (other_side side)

-- and after those that leave one
abbrev pub AreLeapCodes : (c : ℕ) (first : Bool) → ShelfMen → Side → (a b code : ℕ) → Type 0
AreLeapCodes c first men side a b code =
    (t : ℕ) × IsAdvance men side a b None t × LeavesTarget men side a b t × IsSomeTurnedCodeWith true c code false (stand_after first false men a men.last t) (other_side side)

-- the last man, a pawn of that side, attacks the square that the first, a pawn of the other side, has just passed
pub record IsPassingCapture (men : ShelfMen) (side : Side) (a b : ℕ) : Type 0 where
  pub pawn : men.last.kind ≡ P
  pub mine : men.last.side ≡ side
  pub other_pawn : men.first.kind ≡ P
  pub theirs : men.first.side ≡ other_side side
  pub reaches : Reaches (IsPastKings men) men.last b (ahead side a)

-- a move of the man on b to the target
pub record IsPassingFrom (p : Setup) (b : ℕ) (m : Move) : Type 0 where
  pub from : m.from ≡ b
  pub target : p.target ≡ Some m.to

-- the codes of the positions after such a capture
abbrev pub ArePassingCodes : (d : ℕ) (flips : Bool) → ShelfMen → Side → (a b code : ℕ) → Type 0
ArePassingCodes d flips men side a b code =
    IsPassingCapture men side a b × IsSomeTurnedCode d code flips (stand_left flips (left_of men men.last (ahead side a))) (other_side side)

-- the four kinds of moves of a pawn on b: he advances, and is promoted to an officer or not; he takes the man on the square
-- where he arrives, and is not promoted; he does so and is promoted; or he takes in passing
abbrev pub IsAdvancing : Setup → (b : ℕ) → Move → Type 0
IsAdvancing p b m = IsAdvanceFrom p b m.promo m × IfSome m.promo IsOfficer

abbrev pub IsPlainFrom : Setup → (b : ℕ) → Move → Type 0
IsPlainFrom p b m = (m.from ≡ b) × IsPlainCapture p m

abbrev pub IsPromoting : Setup → (b : ℕ) → Move → Type 0
IsPromoting p b m = (kind : Kind) × IsOfficer kind × IsPromotingCaptureFrom p b kind m

abbrev pub IsOfFourKinds : Setup → (b : ℕ) → Move → Type 0
IsOfFourKinds p b m = IsAdvancing p b m ⊎ IsPlainFrom p b m ⊎ IsPromoting p b m ⊎ IsPassingFrom p b m
