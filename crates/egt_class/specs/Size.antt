-- The digits of a class's codes, and how many codes they make.
use Rattle.std.specs.Prelude.{ℕ, ◌*◌, ◌&&◌, Bool, if◌then◌else◌, List, [], ◌∷◌, ◌++◌, map}
use Rattle.std.specs.List.{list_any}
use Rattle.egt_board.specs.Attack.{king_of}
use Rattle.egt_board.specs.declared.man.Side.{Side}
use Rattle.egt_board.specs.declared.man.Side.TheVariants.{White, Black}
use Rattle.egt_board.specs.declared.man.Kind.{Kind}
use Rattle.egt_board.specs.declared.man.Kind.TheVariants.{Q, R, B, N, P, K}
use Rattle.egt_board.specs.declared.man.Man.{Man}
use Rattle.egt_class.specs.Material.{Material, is_kind, material_of}
use Rattle.egt_class.specs.Children.{man_of}

abbrev pub has_pawn : List Kind → Bool
has_pawn kinds = list_any (is_kind P) kinds

abbrev pub has_pawns : Material → Bool
has_pawns m = has_pawn (m.strong ++ m.weak)

-- a target needs a pawn that advanced and a pawn that may take it
abbrev pub has_target : Material → Bool
has_target m = has_pawn m.strong && has_pawn m.weak

-- the men beside the kings in the order of the name
abbrev pub men_beside : Material → List Man
men_beside m = map (man_of White) m.strong ++ map (man_of Black) m.weak

-- the men in the order of their digits: the kings come first
abbrev pub men_in_order : Material → List Man
men_in_order m = king_of White ∷ king_of Black ∷ men_beside m

-- pawns leave two symmetries of the board, by which the white king comes to one of 32 squares; without pawns there are
-- eight, by which he comes to one of ten. A pawn stands on neither the first rank nor the last.
abbrev pub king_base : Bool → ℕ
king_base pawns = if pawns then 32 else 10

abbrev pub base_by : Bool → Side → Kind → ℕ
base_by pawns White K = king_base pawns
base_by pawns Black K = 64
base_by pawns side P = 48
base_by pawns side Q = 64
base_by pawns side R = 64
base_by pawns side B = 64
base_by pawns side N = 64

abbrev pub base_of : Bool → Man → ℕ
base_of pawns man = base_by pawns man.side man.kind

-- the bases of the men's digits, from the highest
abbrev pub men_bases : Material → List ℕ
men_bases m = map (base_of (has_pawns m)) (men_in_order m)

-- behind them come the side to move and, where there may be one, the target
abbrev pub bases : Material → List ℕ
bases m = men_bases m ++ 2 ∷ (if has_target m then 2 ∷ [] else [])

-- how many numbers digits of these bases spell
abbrev pub product : List ℕ → ℕ
product [] = 1
product (base ∷ bases) = base * product bases

-- how many codes a class has
unfoldable pub size_of : ℕ → ℕ
size_of c = product (bases (material_of c))
