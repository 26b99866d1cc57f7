-- Which classes a capture, a promotion or both lead to: FIDE Laws of Chess 2023, articles 3.1 and 3.7.
use Rattle.std.specs.Prelude.{ℕ, ◌+◌, ◌==◌, nat_lt, ◌&&◌, ◌||◌, not, if◌then◌else◌, Bool, true, false, List, [], ◌∷◌}
use Rattle.std.specs.Prelude.{◌++◌, Option, Some, None, map}
use Rattle.std.specs.List.{filter, list_any, flat_map, range_with_len}
use Rattle.egt_board.specs.Prelude.{option_map, is_some, other_side, pawn_of, stands_here}
use Rattle.egt_board.specs.declared.man.Side.{Side}
use Rattle.egt_board.specs.declared.man.Side.TheVariants.{White, Black}
use Rattle.egt_board.specs.declared.man.Kind.{Kind}
use Rattle.egt_board.specs.declared.man.Kind.TheVariants.{Q, R, B, N, P}
use Rattle.egt_board.specs.declared.man.Man.{Man}
use Rattle.egt_class.specs.Material.{Material, material_of, kinds_of, count_in}

-- what a move changes of the men: the side that moves, the kind of the man that it takes, and what a pawn becomes
pub record Change : Type 0 where
  pub mover : Side
  pub taken : Option Kind
  pub becomes : Option Kind

abbrev pub man_of : Side → Kind → Man
man_of side kind = record { side = side; kind = kind }

-- the men that the change takes away, and the man that a pawn becomes
abbrev pub man_taken : Change → Option Man
man_taken change = option_map (man_of (other_side change.mover)) change.taken

abbrev pub pawn_promoted : Change → Option Man
pawn_promoted change = option_map (λ _. pawn_of change.mover) change.becomes

abbrev pub man_promoted : Change → Option Man
man_promoted change = option_map (man_of change.mover) change.becomes

-- the other side where colours are flipped
abbrev pub side_if : Bool → Side → Side
side_if flipped side = if flipped then other_side side else side

-- how many of this man there are, White being the side named first, or Black where colours are flipped
abbrev pub men_of : Material → Bool → Man → ℕ
men_of m flipped man = count_in (kinds_of m (side_if flipped man.side)) man.kind

-- every man but the kings
abbrev pub kinds_beside : List Kind
kinds_beside = Q ∷ R ∷ B ∷ N ∷ P ∷ []

abbrev pub men_beside : List Man
men_beside = map (man_of White) kinds_beside ++ map (man_of Black) kinds_beside

-- the counts are the same at each of these men; no more are looked at once they differ
abbrev pub agree_at : List Man → (Man → ℕ) → (Man → ℕ) → Bool
agree_at [] f g = true
agree_at (man ∷ men) f g = elim (f man == g man) [ true ↦ agree_at men f g | false ↦ false ]

-- the men of n, in the one colours or the other, are those of m after the change
abbrev pub follows_as : Bool → Material → Change → Material → Bool
follows_as flipped m change n =
    agree_at men_beside (λ man. men_of n flipped man + stands_here man (man_taken change) + stands_here man (pawn_promoted change))
    (λ man. men_of m false man + stands_here man (man_promoted change))

abbrev pub follows : Material → Change → Material → Bool
follows m change n = follows_as false m change n || follows_as true m change n

-- a capture, a promotion or both; a pawn that is promoted arrives on the last rank, and takes no pawn there
abbrev pub is_change : Option Kind → Option Kind → Bool
is_change None None = false
is_change None (Some kind) = true
is_change (Some P) becomes = not (is_some becomes)
is_change (Some _) becomes = true

-- the men that the change takes away are there
abbrev pub has_man : Material → Option Man → Bool
has_man m None = true
has_man m (Some man) = nat_lt 0 (men_of m false man)

abbrev pub is_possible : Material → Change → Bool
is_possible m change = is_change change.taken change.becomes && has_man m (man_taken change) && has_man m (pawn_promoted change)

abbrev pub takings : List (Option Kind)
takings = None ∷ map Some kinds_beside

abbrev pub promotions : List (Option Kind)
promotions = None ∷ map Some (Q ∷ R ∷ B ∷ N ∷ [])

abbrev pub changes : List Change
changes =
    flat_map (λ mover. flat_map (λ taken. map (λ becomes. record { mover = mover; taken = taken; becomes = becomes }) promotions) takings)
    (White ∷ Black ∷ [])

-- one of these changes leads from m to n
abbrev pub leads_to : List Change → Material → Material → Bool
leads_to some m n = list_any (λ change. follows m change n) some

-- a change that is possible in class c leads to class d
abbrev pub is_child_of : ℕ → ℕ → Bool
is_child_of c d = leads_to (filter (is_possible (material_of c)) changes) (material_of c) (material_of d)

-- the classes that a change leads to, ascending
unfoldable pub children_of : ℕ → List ℕ
children_of c = filter (is_child_of c) (range_with_len 0 36)
