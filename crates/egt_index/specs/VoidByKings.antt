-- The kings of what turns make of a position, which tell that codes after a turn are void.
use Rattle.std.specs.Prelude.{◌≡◌, ℕ, ◌+◌, ◌*◌, ◌/◌, ◌<◌, ◌≤◌, ◌==◌, Bool}
use Rattle.egt_board.specs.Prelude.{king_of, Stands, Setup}
use Rattle.egt_board.specs.declared.man.Side.{Side}
use Rattle.egt_board.specs.declared.man.Side.TheVariants.{White, Black}
use Rattle.egt_index.specs.Code.{Spells}
use Rattle.egt_index.specs.Index.{IsVoid}
use Rattle.egt_index.specs.Stood.{HasStand}
use Rattle.egt_index.specs.TurnedMen.{IsTurnedCodeWith}
use Rattle.egt_index.specs.Turns.{IsTurn}
use Rattle.egt_index.specs.Went.{AreOnBoard}
use Rattle.egt_index.specs.declared.stand.Stand.{Stand}

-- some turn that exchanges colours so makes what a code spells, with its kings on these squares, and none makes any with its kings on
-- lesser ones
pub record KingsHome (c : ℕ) (p : Setup) (flips : Bool) (kings : ℕ) : Type 0 where
  pub turn : ℕ
  pub below : turn < 16
  pub flips_is : (turn / 8 == 1) ≡ flips
  pub image : Setup
  pub turned : IsTurn turn p image
  pub code : ℕ
  pub spells : Spells c code image
  pub white : ℕ
  pub black : ℕ
  pub white_there : Stands image.men white (king_of White)
  pub black_there : Stands image.men black (king_of Black)
  pub is : kings ≡ 64 * white + black
  pub least : (t : ℕ) (q : Setup) (other x y : ℕ) → t < 16 → (t / 8 == 1) ≡ flips → IsTurn t p q → Spells c other q → Stands q.men x (king_of White) → Stands q.men y (king_of Black) → kings ≤ 64 * x + y

-- in whatever position the kings stand on these squares, those are the least to which the turns take them that exchange colours so and
-- bring the white king home
abbrev pub AreNearest : ℕ → Bool → (white black kings : ℕ) → Type 0
AreNearest c flips white black kings =
    (stand : Stand) (side : Side) (targeted : Bool) (p : Setup) → stand.white ≡ white → stand.black ≡ black → HasStand c flips stand side targeted p → KingsHome c p flips kings

-- of men with their kings on these squares no code after the turn is a position's index
abbrev pub IsVoidAfter : ℕ → (white black turn : ℕ) → Type 0
IsVoidAfter c white black turn =
    (targeted : Bool) (code : ℕ) (stand : Stand) (side : Side) → AreOnBoard stand → stand.white ≡ white → stand.black ≡ black → IsTurnedCodeWith targeted c turn code stand side → IsVoid c code
