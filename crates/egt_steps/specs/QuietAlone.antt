-- The kings and one man, the last of a shelf's, and the men after the quiet steps of a side.
use Rattle.std.specs.Prelude.{◌≡◌, ◌≢◌, ℕ, ◌<◌, ◌⊎◌, false}
use Rattle.egt_index.specs.Prelude.{Reaches, other_side, lone_stand}
use Rattle.egt_board.specs.declared.man.Kind.TheVariants.{P}
use Rattle.egt_board.specs.declared.man.Side.{Side}
use Rattle.egt_index.specs.TurnedMen.{IsSomeTurnedCode}
use Rattle.egt_index.specs.declared.shelf_codes.ShelfMen.{ShelfMen}
use Rattle.egt_index.specs.declared.stand.Stand.{Stand}
use Rattle.egt_steps.specs.Stands.{IsBesideKing, with_king}
use Rattle.egt_steps.specs.Takings.{IsPastKings}

-- the last man alone beside the kings, on s
abbrev pub stand_alone : ShelfMen → ℕ → Stand
stand_alone men s = lone_stand men.white men.black men.last s

-- the men after a quiet step of that side's king, or of the man, who stood on s, where he is a piece of the side
abbrev pub IsQuietAlone : ShelfMen → Side → (s : ℕ) → Stand → Type 0
IsQuietAlone men side s stand =
    ((k : ℕ) × IsBesideKing men side k × (stand ≡ stand_alone (with_king men side k) s))
    ⊎ ((men.last.side ≡ side) × (men.last.kind ≢ P) × (t : ℕ) × (t < 64) × Reaches (IsPastKings men) men.last s t × (stand ≡ stand_alone men t))

-- the codes of the men with that side's king on one of these squares, wherever turns take them, the other side to move
abbrev pub AreKingCodesAlone : (c : ℕ) (men : ShelfMen) (side : Side) (In : ℕ → Type 0) (s code : ℕ) → Type 0
AreKingCodesAlone c men side In s code = (k : ℕ) × In k × IsSomeTurnedCode c code false (stand_alone (with_king men side k) s) (other_side side)

-- those of the men after a quiet step
abbrev pub AreCodesAlone : (c : ℕ) (men : ShelfMen) (side : Side) (s code : ℕ) → Type 0
AreCodesAlone c men side s code = (stand : Stand) × IsQuietAlone men side s stand × IsSomeTurnedCode c code false stand (other_side side)

-- the man is no pawn of that side, nor one whom its king attacks: no move of it zeroes
pub record NoneZeroes (men : ShelfMen) (side : Side) (s : ℕ) : Type 0 where
  pub own : men.last.side ≡ side → men.last.kind ≢ P
  pub other : men.last.side ≡ other_side side → ¬ IsBesideKing men side s
