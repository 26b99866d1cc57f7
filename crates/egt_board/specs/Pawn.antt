-- How pawns stand and advance: FIDE Laws of Chess 2023, article 3.7.
use Rattle.std.specs.Prelude.{◌≡◌, ◌≢◌, ℕ, ◌+◌, ◌-◌, ◌<◌, ◌⊎◌, ◌==◌, if◌then◌else◌}
use Rattle.egt_board.specs.declared.man.Side.{Side}
use Rattle.egt_board.specs.declared.man.Side.TheVariants.{White, Black}
use Rattle.egt_board.specs.declared.man.Kind.{Kind}
use Rattle.egt_board.specs.declared.man.Kind.TheVariants.{Q, R, B, N, P, K}
use Rattle.egt_board.specs.declared.man.Man.{Man}
use Rattle.egt_board.specs.declared.step.Step.{Step}
use Rattle.egt_board.specs.declared.step.Way.TheVariants.{Up, Down, Still}
use Rattle.egt_board.specs.Man.{other_side}
use Rattle.egt_board.specs.Square.{file_of, rank_of}
use Rattle.egt_board.specs.Placement.{Placement, Stands}
use Rattle.egt_board.specs.AttackLines.{step, Rides}

-- the pawn of that side
abbrev pub pawn_of : Side → Man
pawn_of side = record { side = side; kind = P }

-- the man who attacks the squares from which this one attacks his: of a pawn the enemy's, of another man the same
abbrev pub facing_by : Side → Kind → Man
facing_by side P = pawn_of (other_side side)
facing_by side Q = record { side = side; kind = Q }
facing_by side R = record { side = side; kind = R }
facing_by side B = record { side = side; kind = B }
facing_by side N = record { side = side; kind = N }
facing_by side K = record { side = side; kind = K }

abbrev pub facing : Man → Man
facing man = facing_by man.side man.kind

-- one square forward: up the ranks for White, down for Black
abbrev pub forward : Side → Step
forward White = step Still 0 Up 1
forward Black = step Still 0 Down 1

-- the number of the square that is one forward
abbrev pub ahead : Side → ℕ → ℕ
ahead White s = s + 8
ahead Black s = s - 8

-- the rank on which that side's pawns begin: the second for White, the seventh for Black (counted from 0)
abbrev pub home_rank : Side → ℕ
home_rank White = 1
home_rank Black = 6

-- the rank on which that side's pawns are promoted
abbrev pub last_rank : Side → ℕ
last_rank White = 7
last_rank Black = 0

-- how many squares a pawn of that side on s advances at most
abbrev pub farthest_advance : Side → ℕ → ℕ
farthest_advance side s = if rank_of s == home_rank side then 2 else 1

-- a pawn of that side on s advances to t: one square forward, or two from its original rank, all of them free
-- (3.7.1, 3.7.2)
pub record Advances (Free : ℕ → Type 0) (side : Side) (s t : ℕ) : Type 0 where
  pub rides : Rides Free (farthest_advance side s) s t (forward side)
  pub free : Free t

-- a pawn may stand on no square of the first rank or the last
abbrev pub MayStand : Man → ℕ → Type 0
MayStand man s = man.kind ≡ P → (0 < rank_of s) × (rank_of s < 7)

-- no pawn stands on the first rank or the last
abbrev pub PawnsFit : Placement → Type 0
PawnsFit men = (s : ℕ) (man : Man) → Stands men s man → MayStand man s

-- no pawn stands on the board
abbrev pub HasNoPawn : Placement → Type 0
HasNoPawn men = (s : ℕ) (man : Man) → Stands men s man → man.kind ≢ P

-- the one square stands beside the other: on its rank, on the next file
abbrev pub IsBeside : ℕ → ℕ → Type 0
IsBeside s t = (rank_of s ≡ rank_of t) × ((file_of s ≡ file_of t + 1) ⊎ (file_of t ≡ file_of s + 1))

-- a pawn of that side stands beside the square
pub record HasPawnBeside (men : Placement) (side : Side) (t : ℕ) : Type 0 where
  pub square : ℕ
  pub stands : Stands men square (pawn_of side)
  pub beside : IsBeside square t
