-- Blocks that were forgotten.
use Rattle.std.specs.Prelude.{◌≡◌, ℕ, ◌<◌, ◌⊎◌, List, length, Option, None, IfSome, slice_index_or}
use Rattle.egt_board.specs.declared.man.Side.{Side}
use Rattle.egt_blocks.specs.Kept.{IsPlaced}
use Rattle.egt_blocks.specs.declared.kept_blocks.BlockKey.{BlockKey}
use Rattle.egt_sweep.specs.Turns.{TurnsTo}

-- each key is as it was, or gone
abbrev pub AreFewer : (old new : List (Option BlockKey)) → Type 0
AreFewer old new = (i : ℕ) → (slice_index_or new i None ≡ slice_index_or old i None) ⊎ (slice_index_or new i None ≡ None)

-- gone are those of the kings, side s to move, whom a turn takes to these squares and that side, where each key stood at its place
pub record AreForgotten (c white black : ℕ) (side s : Side) (old new : List (Option BlockKey)) : Type 0 where
  pub fewer : AreFewer old new
  pub apart : ((i : ℕ) → i < length old → IsPlaced (length old) (slice_index_or old i None) i) →
      (i : ℕ) → i < length old → IfSome (slice_index_or new i None) (λ k. ¬ TurnsTo c k.white k.black s white black side)
