-- The search for the one king of a side.
use Rattle.std.specs.Prelude.{◌≡◌, ℕ, Option, Some, None, ◌⊎◌}
use Rattle.egt_board.specs.Prelude.{bit_at, Side, Placement, Stands, king_of}

-- the king that was found stands there
abbrev pub FoundKing : Placement → Side → Option ℕ → Type 0
FoundKing men side None = Unit {0}
FoundKing men side (Some s) = Stands men s (king_of side)

-- it was found already
abbrev pub IsFound : Option ℕ → ℕ → Type 0
IsFound None t = ⊥
IsFound (Some s) t = t ≡ s

-- a king of the side was found already or is still in the set
abbrev pub KingsLeft : Placement → Side → Option ℕ → ℕ → Type 0
KingsLeft men side found rest = (t : ℕ) → Stands men t (king_of side) → IsFound found t ⊎ (bit_at rest t ≡ 1)

-- what was found is no longer in the set
abbrev pub IsPast : Option ℕ → ℕ → Type 0
IsPast None rest = Unit {0}
IsPast (Some s) rest = bit_at rest s ≡ 0

pub record Seeks (men : Placement) (side : Side) (found : Option ℕ) (rest : ℕ) : Type 0 where
  pub there : FoundKing men side found
  pub left : KingsLeft men side found rest
  pub past : IsPast found rest
