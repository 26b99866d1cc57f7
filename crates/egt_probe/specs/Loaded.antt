-- The classes that are loaded, and the positions of them.
use Rattle.std.specs.Prelude.{ℕ, ◌<◌, Bool, Option, IsSome, IsNone}
use Rattle.egt_class.specs.Prelude.{Setup, IsOf}

-- of each class nothing where it is not loaded, else whether its table has the column of the nearest mates
abbrev pub Loaded : Type 0
Loaded = ℕ → Option Bool

-- the position is of the class with that number, in whatever colours
pub record IsOfClass (c : ℕ) (p : Setup) : Type 0 where
  pub below : c < 36
  pub flipped : Bool
  pub of : IsOf c flipped p

-- the position's class is loaded
pub record IsLoaded (loaded : Loaded) (p : Setup) : Type 0 where
  pub class : ℕ
  pub of : IsOfClass class p
  pub there : IsSome (loaded class)

-- the position is of this class, which is not loaded
pub record IsMissing (loaded : Loaded) (p : Setup) (c : ℕ) : Type 0 where
  pub of : IsOfClass c p
  pub absent : IsNone (loaded c)
