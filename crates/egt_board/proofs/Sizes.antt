-- How many squares a set has.
use Rattle.std.proofs.Common.{◌≡◌, ◌≢◌, ℕ, zero, suc, ◌+◌, ◌<◌, ◌≤◌, ◌⊎◌, max, Bool, true, cond, ◌&&◌, ◌||◌, not, eqb}
use Rattle.std.proofs.Common.{leb, List, [], ◌∷◌, ◌++◌, ◌*◌, arith, refl, ap, ◌∙◌, inl, inr, subst}
use Rattle.egt_board.specs.Prelude.{bit_at, eq-eqb, Man, Further, file_of, rank_of, size_of, Reaches, steps_of, Advances}
use Rattle.egt_board.specs.Prelude.{cases_eq, leb-true, and_from, bit_at-lt, R, SquareSet, list_all, eqb_tells, farthest}
use Rattle.egt_board.specs.Prelude.{le-leb, Side, White, Black, Kind, B, N, P, K, Step, Way, Away, total, Rides, OneOf}
use Rattle.egt_board.specs.Prelude.{and_parts, Q, most_reached, straight_steps, diagonal_steps, knight_steps, pawn_steps}
use Rattle.egt_board.proofs.Parts.{of_four}

pub total-le : (f g : ℕ → ℕ) (n : ℕ) → ((t : ℕ) → t < n → f t ≤ g t) → total f n ≤ total g n
total-le f g zero le = omega arith
total-le f g (suc n) le =
    let rest : total f n ≤ total g n = total-le f g n (λ t t_in. le t (omega arith)) in
    let last : f n ≤ g n = le n (omega arith) in omega arith

pub total-same : (f g : ℕ → ℕ) (n : ℕ) → ((t : ℕ) → t < n → f t ≡ g t) → total f n ≡ total g n
total-same f g zero same = refl
total-same f g (suc n) same =
    let rest : total f n ≡ total g n = total-same f g n (λ t t_in. same t (omega arith)) in
    let last : f n ≡ g n = same n (omega arith) in omega arith

pub total-less : (f g : ℕ → ℕ) (n s : ℕ) → s < n → f s ≡ 1 → g s ≡ 0 → ((t : ℕ) → t ≢ s → g t ≡ f t) → total g n + 1 ≡ total f n
total-less f g zero s s_in one none others = absurd (omega arith)
total-less f g (suc n) s s_in one none others = elim (cases_eq s n) [
  | inl e ↦
      let rest : total g n ≡ total f n = total-same g f n (λ t t_in. others t (λ same. omega arith)) in
      let here : f n ≡ 1 = subst (λ j. f j ≡ 1) e one in
      let gone : g n ≡ 0 = subst (λ j. g j ≡ 0) e none in omega arith
  | inr other ↦
      let rest : total g n + 1 ≡ total f n = total-less f g n s (omega arith) one none others in
      let last : g n ≡ f n = others n (λ same. omega arith) in omega arith
]

pub size_of-less : (a b : SquareSet) (s : ℕ) → s < 64 → bit_at a.bits s ≡ 1 → bit_at b.bits s ≡ 0 → ((t : ℕ) → t ≢ s → bit_at b.bits t ≡ bit_at a.bits t) → size_of b + 1 ≡ size_of a
unfolding size_of
size_of-less a b s s_in one none others = total-less (bit_at a.bits) (bit_at b.bits) 64 s s_in one none others

pub size_of-le : (a b : SquareSet) → ((t : ℕ) → bit_at a.bits t ≤ bit_at b.bits t) → size_of a ≤ size_of b
unfolding size_of
size_of-le a b le = total-le (bit_at a.bits) (bit_at b.bits) 64 (λ t _. le t)

total-sum : (f g h : ℕ → ℕ) (n : ℕ) → ((t : ℕ) → h t ≤ f t + g t) → total h n ≤ total f n + total g n
total-sum f g h zero le = omega arith
total-sum f g h (suc n) le = let rest = total-sum f g h n le in let last = le n in omega arith

-- no more squares are in either of two sets than in both together
pub size_of-either : (a b c : SquareSet) → ((t : ℕ) → bit_at c.bits t ≡ max (bit_at a.bits t) (bit_at b.bits t)) → size_of c ≤ size_of a + size_of b
unfolding size_of
size_of-either a b c either = total-sum (bit_at a.bits) (bit_at b.bits) (bit_at c.bits) 64 (λ t. let e = either t in omega arith)

-- on one file, rank or diagonal
aligned : ℕ → ℕ → Bool
aligned s t =
    eqb (file_of s) (file_of t) || (eqb (rank_of s) (rank_of t) || (eqb (file_of s + rank_of s) (file_of t + rank_of t) || eqb (file_of s + rank_of t) (file_of t + rank_of s)))

-- at most n files and n ranks away
within : ℕ → ℕ → ℕ → Bool
within n s t =
    leb (file_of s) (file_of t + n) && (leb (file_of t) (file_of s + n) && (leb (rank_of s) (rank_of t + n) && leb (rank_of t) (rank_of s + n)))

-- some ranks further forward
further : Side → ℕ → ℕ → ℕ → Bool
further White n s t = eqb (rank_of t) (rank_of s + n)
further Black n s t = eqb (rank_of s) (rank_of t + n)

-- a square that a man of this kind may attack from another, whatever stands where
near : Side → Kind → ℕ → ℕ → Bool
near side Q s t = aligned s t
near side R s t = aligned s t
near side B s t = aligned s t
near side N s t = within 2 s t
near side P s t = further side 1 s t && (eqb (file_of t) (file_of s + 1) || eqb (file_of s) (file_of t + 1))
near side K s t = not (eqb s t) && within 1 s t

-- a square to which a pawn may advance
near_ahead : Side → ℕ → ℕ → Bool
near_ahead side s t = eqb (file_of s) (file_of t) && (further side 1 s t || further side 2 s t)

all_below : (ℕ → Bool) → ℕ → Bool
all_below p zero = true
all_below p (suc n) = p n && all_below p n

-- at most so many squares are near to this one
few_near : (ℕ → ℕ → Bool) → ℕ → ℕ → Bool
few_near is_near most s = leb (total (λ t. cond (is_near s t) 1 0) 64) most

all_few : (side : Side) (kind : Kind) → all_below (few_near (near side kind) (most_reached kind)) 64 ≡ true
unfolding aligned within further near all_below few_near
all_few side Q = refl
all_few side R = refl
all_few side B = refl
all_few side N = refl
all_few White P = refl
all_few Black P = refl
all_few side K = refl

all_few_ahead : (side : Side) → all_below (few_near (near_ahead side) 2) 64 ≡ true
unfolding further near_ahead all_below few_near
all_few_ahead White = refl
all_few_ahead Black = refl

one_of_four : (a b c d : Bool) → (a ≡ true) ⊎ ((b ≡ true) ⊎ ((c ≡ true) ⊎ (d ≡ true))) → (a || (b || (c || d))) ≡ true
one_of_four a b c d h = grind arith

at_below : (p : ℕ → Bool) (n k : ℕ) → all_below p n ≡ true → k < n → p k ≡ true
unfolding all_below
at_below p zero k all k_in = absurd (omega arith)
at_below p (suc n) k all k_in = elim (cases_eq k n) [
  | inl e ↦ ap p e ∙ (and_parts (p n) (all_below p n) all).0
  | inr other ↦ at_below p n k (and_parts (p n) (all_below p n) all).1 (omega arith)
]

Line : ℕ → ℕ → Type 0
Line s t = (file_of s ≡ file_of t) ⊎ ((rank_of s ≡ rank_of t) ⊎ ((file_of s + rank_of s ≡ file_of t + rank_of t) ⊎ (file_of s + rank_of t ≡ file_of t + rank_of s)))

aligned_of : (s t : ℕ) → Line s t → aligned s t ≡ true
unfolding aligned Line
aligned_of s t line = grind (arith, one_of_four, eq-eqb)

straight_line : (F : ℕ → Type 0) (most s t : ℕ) → OneOf (Rides F most s t) straight_steps → Line s t
unfolding Line
straight_line F most s t some = grind (arith, of_four)

diagonal_line : (F : ℕ → Type 0) (most s t : ℕ) → OneOf (Rides F most s t) diagonal_steps → Line s t
unfolding Line
diagonal_line F most s t some = grind (arith, of_four)

OneOf-append : (Holds : Step → Type 0) (ds es : List Step) → OneOf Holds (ds ++ es) → OneOf Holds ds ⊎ OneOf Holds es
OneOf-append Holds [] es some = inr some
OneOf-append Holds (d ∷ ds) es some = elim some [
  | inl p ↦ inl (inl p)
  | inr rest ↦ elim (OneOf-append Holds ds es rest) [ inl q ↦ inl (inr q) | inr q ↦ inr q ]
]

-- a step that goes somewhere
straight_apart : (F : ℕ → Type 0) (most s t : ℕ) → OneOf (Rides F most s t) straight_steps → s ≢ t
straight_apart F most s t some = grind (arith, of_four)

diagonal_apart : (F : ℕ → Type 0) (most s t : ℕ) → OneOf (Rides F most s t) diagonal_steps → s ≢ t
diagonal_apart F most s t some = grind (arith, of_four)

small_step : ℕ → Step → Bool
small_step n d = leb d.wide n && leb d.high n

-- one of several small steps is small
some_small : (Holds : Step → Type 0) (n : ℕ) (ds : List Step) → list_all (small_step n) ds ≡ true → OneOf Holds ds → (d : Step) × Holds d × (small_step n d ≡ true)
some_small Holds n [] all none = absurd none
some_small Holds n (d ∷ ds) all some = elim some [
  | inl p ↦ (d, p, (and_parts _ _ all).0)
  | inr rest ↦ some_small Holds n ds (and_parts _ _ all).1 rest
]

Further-within : (w : Way) (by n a b : ℕ) → by ≤ n → Further w (1 * by) a b → (a ≤ b + n) × (b ≤ a + n)
Further-within w by n a b le h = grind arith

within_of : (F : ℕ → Type 0) (n s t : ℕ) (ds : List Step) → list_all (small_step n) ds ≡ true → OneOf (Rides F 1 s t) ds → within n s t ≡ true
unfolding within small_step
within_of F n s t ds all some =
    let w = some_small (Rides F 1 s t) n ds all some in
    let d = w.0 in
    let r = w.1 in
    let moves = r.moves in
    let most = r.within in
    let one : r.count ≡ 1 = omega arith in
    let away : Away d 1 s t = subst (λ k. Away d k s t) one r.away in
    let f = Further-within d.files d.wide n (file_of s) (file_of t) (leb-true _ _ (and_parts _ _ w.2).0) away.across in
    let g = Further-within d.ranks d.high n (rank_of s) (rank_of t) (leb-true _ _ (and_parts (leb d.wide n) _ w.2).1) away.along in
    and_from _ _ (le-leb _ _ f.0) (and_from _ _ (le-leb _ _ f.1) (and_from _ _ (le-leb _ _ g.0) (le-leb _ _ g.1)))

apart_true : (s t : ℕ) → s ≢ t → not (eqb s t) ≡ true
apart_true s t apart = elim (eqb_tells s t) [ inl h ↦ absurd (apart h.1) | inr h ↦ ap not h.0 ]

one_of_two : (a b : Bool) → (a ≡ true) ⊎ (b ≡ true) → (a || b) ≡ true
one_of_two a b h = grind arith

-- a pawn attacks the squares next to the one ahead
near_pawn : (F : ℕ → Type 0) (side : Side) (s t : ℕ) → OneOf (Rides F 1 s t) (pawn_steps side) → near side P s t ≡ true
unfolding near further
near_pawn F side s t some = grind (arith, and_from, eq-eqb, one_of_two)

-- a man attacks only squares that are near
near_of : (F : ℕ → Type 0) (side : Side) (kind : Kind) (s t : ℕ) → OneOf (Rides F (farthest kind) s t) (steps_of side kind) → near side kind s t ≡ true
unfolding near small_step
near_of F side Q s t r = aligned_of s t (elim (OneOf-append (Rides F 7 s t) straight_steps diagonal_steps r) [ inl h ↦ straight_line F 7 s t h | inr h ↦ diagonal_line F 7 s t h ])
near_of F side R s t r = aligned_of s t (straight_line F 7 s t r)
near_of F side B s t r = aligned_of s t (diagonal_line F 7 s t r)
near_of F side N s t r = within_of F 2 s t knight_steps refl r
near_of F side P s t r = near_pawn F side s t r
near_of F side K s t r =
    and_from (not (eqb s t)) (within 1 s t)
    (apart_true s t (elim (OneOf-append (Rides F 1 s t) straight_steps diagonal_steps r) [ inl h ↦ straight_apart F 1 s t h | inr h ↦ diagonal_apart F 1 s t h ]))
    (within_of F 1 s t (steps_of side K) refl r)

-- a pawn advances only to squares that are near ahead
one_or_two : (b : Bool) (n : ℕ) → 0 < n → n ≤ cond b 2 1 → (n ≡ 1) ⊎ (n ≡ 2)
one_or_two b n some most = grind (arith, cases_eq)

ahead_of : (F : ℕ → Type 0) (side : Side) (s t : ℕ) → Advances F side s t → near_ahead side s t ≡ true
unfolding near_ahead further
ahead_of h0 h1 s t a = grind (arith, and_from, eq-eqb, file_of, one_of_two, one_or_two, within, eqb, rank_of)

-- a set of squares that are near has few
few_of_near : (is_near : ℕ → ℕ → Bool) (most : ℕ) (set : SquareSet) (s : ℕ) → all_below (few_near is_near most) 64 ≡ true → s < 64 → ((t : ℕ) → bit_at set.bits t ≡ 1 → is_near s t ≡ true) → size_of set ≤ most
unfolding size_of few_near
few_of_near is_near most set s all s_in nears =
    let few : total (λ t. cond (is_near s t) 1 0) 64 ≤ most = leb-true _ _ (at_below (few_near is_near most) 64 s all s_in) in
    let le : total (bit_at set.bits) 64 ≤ total (λ t. cond (is_near s t) 1 0) 64 = total-le (bit_at set.bits) (λ t. cond (is_near s t) 1 0) 64 (λ t _. bit_le t) in
    omega arith
  where
    bit_le : (t : ℕ) → bit_at set.bits t ≤ cond (is_near s t) 1 0
    bit_le t = grind (arith, cases_eq, bit_at-lt)

-- so a man attacks few, and a pawn advances to few
pub reach_few : (set : SquareSet) (F : ℕ → Type 0) (man : Man) (s : ℕ) → s < 64 → ((t : ℕ) → bit_at set.bits t ≡ 1 → Reaches F man s t) → size_of set ≤ most_reached man.kind
reach_few set F man s s_in reached = few_of_near (near man.side man.kind) (most_reached man.kind) set s (all_few man.side man.kind) s_in (λ t one. near_of F man.side man.kind s t (reached t one))

pub advances_few : (set : SquareSet) (F : ℕ → Type 0) (side : Side) (s : ℕ) → s < 64 → ((t : ℕ) → bit_at set.bits t ≡ 1 → Advances F side s t) → size_of set ≤ 2
advances_few set F side s s_in advances = few_of_near (near_ahead side) 2 set s (all_few_ahead side) s_in (λ t one. ahead_of F side s t (advances t one))
