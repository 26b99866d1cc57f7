-- The men after the quiet steps of a side: of its king, and of pieces, since each move of a pawn zeroes.
use Rattle.std.specs.Prelude.{◌≡◌, ◌≢◌, ℕ, ◌<◌, ◌⊎◌, false}
use Rattle.egt_board.specs.Prelude.{Reaches, other_side}
use Rattle.egt_board.specs.declared.man.Kind.TheVariants.{P}
use Rattle.egt_board.specs.declared.man.Side.{Side}
use Rattle.egt_index.specs.TurnedMen.{IsSomeTurnedCode}
use Rattle.egt_index.specs.declared.shelf_codes.ShelfMen.{ShelfMen}
use Rattle.egt_index.specs.declared.stand.Stand.{Stand}
use Rattle.egt_steps.specs.Stands.{IsBesideKing, stand_on, with_king}

-- none of the kings and of the other man stands there
abbrev pub IsClear : ShelfMen → (other u : ℕ) → Type 0
IsClear men other u = (u ≢ men.white) × (u ≢ men.black) × (u ≢ other)

-- the men after a quiet step of a king or piece of that side, whose first man beside the kings stood on a and the last on b
abbrev pub IsQuietStand : ShelfMen → Side → (a b : ℕ) → Stand → Type 0
IsQuietStand men side a b stand =
    ((k : ℕ) × IsBesideKing men side k × (stand ≡ stand_on (with_king men side k) a b))
    ⊎ ((men.first.side ≡ side) × (men.first.kind ≢ P) × (t : ℕ) × (t < 64) × Reaches (IsClear men b) men.first a t × (stand ≡ stand_on men t b))
    ⊎ ((men.last.side ≡ side) × (men.last.kind ≢ P) × (t : ℕ) × (t < 64) × Reaches (IsClear men a) men.last b t × (stand ≡ stand_on men a t))

-- the codes of the men after such a step, wherever turns take them
abbrev pub AreQuietCodes : (c : ℕ) (men : ShelfMen) (side : Side) (a b code : ℕ) → Type 0
AreQuietCodes c men side a b code = (stand : Stand) × IsQuietStand men side a b stand × IsSomeTurnedCode c code false stand (other_side side)
