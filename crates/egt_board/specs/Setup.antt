-- Positions and which of them the rules of play admit.
use Rattle.std.specs.Prelude.{◌≡◌, ℕ, ◌<◌, ◌≤◌, Option, refl}
use Rattle.std.specs.Coded.{Coded, code_by, coded×, coded_ℕ, coded_option}
use Rattle.std.specs.FinMap as map
use Rattle.egt_board.specs.contracts.man.Man as man_row
use Rattle.egt_board.specs.contracts.man.Side as side_row
use Rattle.egt_board.specs.declared.man.Side.{Side}
use Rattle.egt_board.specs.declared.man.Side.TheVariants.{White, Black}
use Rattle.egt_board.specs.declared.man.Man.{Man}
use Rattle.egt_board.specs.Man.{other_side}
use Rattle.egt_board.specs.Placement.{Placement, Stands}
use Rattle.egt_board.specs.Attack.{king_of, IsInCheck}
use Rattle.egt_board.specs.Pawn.{PawnsFit}
use Rattle.egt_board.specs.Target.{FitsTarget}

-- the men, the side to move, and the square that a pawn has just passed
pub record Setup : Type 0 where
  pub men : Placement
  pub side : Side
  pub target : Option ℕ

-- a setup is stored as its three parts
abbrev pub setup_code : Coded Setup
setup_code =
    code_by (Placement × (Side × Option ℕ)) (coded× (map.code coded_ℕ man_row.the_row.coded) (coded× side_row.the_row.coded (coded_option coded_ℕ)))
    (λ p. (p.men, (p.side, p.target))) (λ e. record { men = e.0; side = e.1.0; target = e.1.1 }) (λ _. refl)

-- that side's king stands on the square, and nowhere else
pub record IsKingOn (men : Placement) (side : Side) (s : ℕ) : Type 0 where
  pub stands : Stands men s (king_of side)
  pub only : (t : ℕ) → Stands men t (king_of side) → t ≡ s

-- one king a side
pub record HasKings (men : Placement) : Type 0 where
  pub white : ℕ
  pub black : ℕ
  pub white_there : IsKingOn men White white
  pub black_there : IsKingOn men Black black

-- at most four men on squares of the board, one king a side, no pawn on the first rank or the last, a target that the
-- last move may have set, and the side that waits is not in check (FIDE Laws of Chess 2023, article 3.9)
pub record IsAdmissible (p : Setup) : Type 0 where
  pub few : map.len p.men ≤ 4
  pub on_board : (s : ℕ) (man : Man) → Stands p.men s man → s < 64
  pub kings : HasKings p.men
  pub pawns : PawnsFit p.men
  pub target : FitsTarget p.men p.side p.target
  pub quiet : ¬ IsInCheck p.men (other_side p.side)
