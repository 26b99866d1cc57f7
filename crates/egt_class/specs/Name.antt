-- The names of classes.
use Rattle.std.specs.Prelude.{ℕ, ◌==◌, not, Bool, List, ◌++◌, map}
use Rattle.egt_board.specs.declared.man.Side.TheVariants.{White, Black}
use Rattle.egt_board.specs.declared.man.Kind.{Kind}
use Rattle.egt_board.specs.declared.man.Kind.TheVariants.{Q, R, B, N, P, K}
use Rattle.egt_class.specs.Material.{kinds_of, material_of}

-- the codes of the capital letters Q, R, B, N, P and K (PGN standard 1994, section 8.2.3.2, with P for the pawn)
abbrev pub capital : Kind → ℕ
capital Q = 81
capital R = 82
capital B = 66
capital N = 78
capital P = 80
capital K = 75

-- the side named first, its king foremost, and then the other
unfoldable pub name_of : ℕ → List ℕ
name_of c = map capital (kinds_of (material_of c) White ++ kinds_of (material_of c) Black)

-- no space
abbrev pub is_letter : ℕ → Bool
is_letter letter = not (letter == 32)
