-- The classes of positions with up to two men beside the kings, and the men of each.
use Rattle.std.specs.Prelude.{ℕ, ◌==◌, ◌&&◌, Bool, List, [], ◌∷◌, slice_index_or, count_by}
use Rattle.egt_board.specs.declared.man.Side.{Side}
use Rattle.egt_board.specs.declared.man.Side.TheVariants.{White, Black}
use Rattle.egt_board.specs.declared.man.Kind.{Kind}
use Rattle.egt_board.specs.declared.man.Kind.TheVariants.{Q, R, B, N, P, K}
use Rattle.egt_board.specs.Images.{kind_number}

-- the men beside the kings, each side's in the order of the class's name: of the side named first, and of the other
pub record Material : Type 0 where
  pub strong : List Kind
  pub weak : List Kind

abbrev pub beside : List Kind → List Kind → Material
beside strong weak = record { strong = strong; weak = weak }

-- the classes in order of their numbers
unfoldable pub materials : List Material
materials =
    beside [] []
    ∷ beside (Q ∷ []) []
    ∷ beside (R ∷ []) []
    ∷ beside (B ∷ []) []
    ∷ beside (N ∷ []) []
    ∷ beside (P ∷ []) []
    ∷ beside (Q ∷ Q ∷ []) []
    ∷ beside (Q ∷ R ∷ []) []
    ∷ beside (Q ∷ B ∷ []) []
    ∷ beside (Q ∷ N ∷ []) []
    ∷ beside (R ∷ R ∷ []) []
    ∷ beside (R ∷ B ∷ []) []
    ∷ beside (R ∷ N ∷ []) []
    ∷ beside (B ∷ B ∷ []) []
    ∷ beside (B ∷ N ∷ []) []
    ∷ beside (N ∷ N ∷ []) []
    ∷ beside (Q ∷ []) (Q ∷ [])
    ∷ beside (Q ∷ []) (R ∷ [])
    ∷ beside (Q ∷ []) (B ∷ [])
    ∷ beside (Q ∷ []) (N ∷ [])
    ∷ beside (R ∷ []) (R ∷ [])
    ∷ beside (R ∷ []) (B ∷ [])
    ∷ beside (R ∷ []) (N ∷ [])
    ∷ beside (B ∷ []) (B ∷ [])
    ∷ beside (B ∷ []) (N ∷ [])
    ∷ beside (N ∷ []) (N ∷ [])
    ∷ beside (Q ∷ P ∷ []) []
    ∷ beside (R ∷ P ∷ []) []
    ∷ beside (B ∷ P ∷ []) []
    ∷ beside (N ∷ P ∷ []) []
    ∷ beside (Q ∷ []) (P ∷ [])
    ∷ beside (R ∷ []) (P ∷ [])
    ∷ beside (B ∷ []) (P ∷ [])
    ∷ beside (N ∷ []) (P ∷ [])
    ∷ beside (P ∷ P ∷ []) []
    ∷ beside (P ∷ []) (P ∷ [])
    ∷ []

unfoldable pub material_of : ℕ → Material
material_of c = slice_index_or materials c (beside [] [])

-- all men of a side, White being the side named first
abbrev pub kinds_of : Material → Side → List Kind
kinds_of m White = K ∷ m.strong
kinds_of m Black = K ∷ m.weak

abbrev pub is_kind : Kind → Kind → Bool
is_kind kind other = kind_number kind == kind_number other

-- how many men of that kind are among these
abbrev pub count_in : List Kind → Kind → ℕ
count_in kinds kind = count_by (is_kind kind) kinds

-- how many men of that kind the side has in the class
unfoldable pub men_in : ℕ → Side → Kind → ℕ
men_in c side kind = count_in (kinds_of (material_of c) side) kind

abbrev pub has_as_many : Material → Kind → Bool
has_as_many m kind = count_in m.strong kind == count_in m.weak kind

-- both sides have the same men
unfoldable pub has_equal_sides : ℕ → Bool
has_equal_sides c =
    let m = material_of c in has_as_many m Q && has_as_many m R && has_as_many m B && has_as_many m N && has_as_many m P
