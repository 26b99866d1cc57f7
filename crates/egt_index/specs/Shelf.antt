-- The last man of a class, and codes that differ behind his digit alone.
use Rattle.std.specs.Prelude.{ℕ, List, [], ◌∷◌, Option, Some, None}
use Rattle.egt_board.specs.declared.man.Man.{Man}
use Rattle.egt_class.specs.Material.{material_of}
use Rattle.egt_index.specs.Scales.{ends_of}

-- the last of two men; with fewer none is last
abbrev pub last_of : List Man → Option Man
last_of [] = None
last_of (one ∷ []) = None
last_of (one ∷ last ∷ more) = Some last

-- how many codes are in a row: they differ in no more than the side to move and the target
abbrev pub row_len : ℕ → ℕ
row_len c = ends_of (material_of c)
