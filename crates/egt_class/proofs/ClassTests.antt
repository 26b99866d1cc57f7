-- Tests of all classes.
use Rattle.std.proofs.Common.{◌≡◌, ◌≢◌, ℕ, zero, suc, ◌+◌, ◌<◌, ◌&&◌, ◌||◌, ◌⊎◌, Bool, true, false, eqb, ltb, List, []}
use Rattle.std.proofs.Common.{◌∷◌, Option, IfSome, refl, sym, ap₂, ◌∙◌, subst, inl, inr, arith, slice_index}
use Rattle.egt_class.specs.Prelude.{list_any, list_all, Contains, and_parts, eqb-true, eq-eqb, ltb-true, false≢true}
use Rattle.egt_class.specs.Prelude.{Side, White, Black, Kind, Q, R, B, N, P, K, Man, all_below, passes_below, Material}
use Rattle.egt_class.specs.Prelude.{materials, material_of, men_in, has_equal_sides, count_in, kinds_of, name_of}
use Rattle.egt_class.specs.Prelude.{Change, is_possible, follows, men_of, men_beside, agree_at, takings, promotions}
use Rattle.egt_class.specs.Prelude.{children_of, listed, STARTS}
use Rattle.egt_class.proofs.Tables.{same_list, same_list-same, all_less}
use Rattle.egt_class.proofs.CountsAgree.{same_agree}
use Rattle.egt_class.proofs.ChildTable.{children_are_right}

-- no two classes have one name
abbrev names_apart : ℕ → List ℕ → ℕ → Bool
names_apart c name d = elim (same_list name (name_of d)) [ true ↦ eqb c d | false ↦ true ]

all_names_apart : all_below (λ c. all_below (names_apart c (name_of c)) 36) 36 ≡ true
unfolding all_below same_list name_of material_of materials
all_names_apart = refl

-- the sides have the same men, or not
abbrev same_flip : Bool → Bool → Bool
same_flip true b = b
same_flip false true = false
same_flip false false = true

abbrev as_many : Material → Kind → Bool
as_many m kind = eqb (count_in (kinds_of m White) kind) (count_in (kinds_of m Black) kind)

abbrev sides_told : ℕ → Material → Bool
sides_told c m = same_flip (has_equal_sides c) (as_many m Q && (as_many m R && (as_many m B && (as_many m N && (as_many m P && as_many m K)))))

all_sides_told : all_below (λ c. sides_told c (material_of c)) 36 ≡ true
unfolding all_below has_equal_sides material_of materials
all_sides_told = refl

-- no other class has the same men, and no other flip gives them but where both sides have the same
abbrev apart_as : ℕ → ℕ → Bool → Bool → Material → Material → Bool
apart_as c d flipped turned m n = elim (agree_at men_beside (men_of m flipped) (men_of n turned)) [
  | true ↦ eqb c d && (same_flip flipped turned || has_equal_sides c)
  | false ↦ true
]

abbrev apart : ℕ → Material → ℕ → Material → Bool
apart c m d n = apart_as c d false false m n && (apart_as c d false true m n && (apart_as c d true false m n && apart_as c d true true m n))

all_apart : all_below (λ c. all_below (λ d. apart c (material_of c) d (material_of d)) 36) 36 ≡ true
unfolding all_below has_equal_sides material_of materials
all_apart = refl

-- each change that is possible leads to some child
abbrev row : ℕ → List ℕ
row c = listed (slice_index STARTS c) (slice_index STARTS (c + 1))

abbrev is_covered : Material → List ℕ → Change → Bool
is_covered m children change = elim (is_possible m change) [ true ↦ list_any (λ d. follows m change (material_of d)) children | false ↦ true ]

abbrev by_kinds : Material → List ℕ → Side → Option Kind → Option Kind → Bool
by_kinds m children mover taken becomes = is_covered m children (record { mover = mover; taken = taken; becomes = becomes })

abbrev by_mover : Material → List ℕ → Side → Bool
by_mover m children mover = list_all (λ taken. list_all (by_kinds m children mover taken) promotions) takings

abbrev covers : Material → List ℕ → Bool
covers m children = by_mover m children White && by_mover m children Black

all_covered : all_below (λ c. covers (material_of c) (row c)) 36 ≡ true
unfolding all_below listed material_of materials
all_covered = refl

-- children have smaller numbers
all_smaller : all_below (λ c. all_less (row c) c) 36 ≡ true
unfolding all_below listed all_less
all_smaller = refl

-- a test that asks no more where it fails
told_true : (b rest : Bool) → b ≡ true → elim b [ true ↦ rest | false ↦ true ] ≡ true → rest ≡ true
told_true b rest e told = grind arith

pub names_distinct : (c d : ℕ) → c < 36 → d < 36 → name_of c ≡ name_of d → c ≡ d
names_distinct c d c_in d_in same =
    eqb-true c d
    (told_true (same_list (name_of c) (name_of d)) (eqb c d) (same_list-same (name_of c) (name_of d) same)
    (passes_below (names_apart c (name_of c)) 36 d (passes_below (λ c. all_below (names_apart c (name_of c)) 36) 36 c all_names_apart c_in) d_in))

flips_same : (a b : Bool) → same_flip a b ≡ true → a ≡ b
flips_same a b e = grind arith

pub sides_told_at : (c : ℕ) → c < 36 → sides_told c (material_of c) ≡ true
sides_told_at c c_in = passes_below (λ c. sides_told c (material_of c)) 36 c all_sides_told c_in

six : (a b c d e f : Bool) → (a && (b && (c && (d && (e && f))))) ≡ true → (a ≡ true) × (b ≡ true) × (c ≡ true) × (d ≡ true) × (e ≡ true) × (f ≡ true)
six a b c d e f all = grind (arith, and_parts)

all_true : (a b c d e f : Bool) → a ≡ true → b ≡ true → c ≡ true → d ≡ true → e ≡ true → f ≡ true → (a && (b && (c && (d && (e && f))))) ≡ true
all_true a b c d e f p q r s t u = ap₂ (λ x y. x && y) p (ap₂ (λ x y. x && y) q (ap₂ (λ x y. x && y) r (ap₂ (λ x y. x && y) s (ap₂ (λ x y. x && y) t u))))

pub equal_sides : (c : ℕ) → c < 36 → has_equal_sides c ≡ true → (kind : Kind) → men_in c White kind ≡ men_in c Black kind
unfolding men_in
equal_sides c c_in equal = by_kind
  where
    m : Material
    m = material_of c

    each : (as_many (material_of c) Q ≡ true) × (as_many (material_of c) R ≡ true) × (as_many (material_of c) B ≡ true) × (as_many (material_of c) N ≡ true) × (as_many (material_of c) P ≡ true) × (as_many (material_of c) K ≡ true)
    each = six _ _ _ _ _ _ (sym (flips_same _ _ (sides_told_at c c_in)) ∙ equal)

    by_kind : (kind : Kind) → men_in c White kind ≡ men_in c Black kind
    by_kind Q = eqb-true _ _ each.0
    by_kind R = eqb-true _ _ each.1
    by_kind B = eqb-true _ _ each.2
    by_kind N = eqb-true _ _ each.3
    by_kind P = eqb-true _ _ each.4
    by_kind K = eqb-true _ _ each.5

pub tell_equal_sides : (c : ℕ) → c < 36 → ((kind : Kind) → men_in c White kind ≡ men_in c Black kind) → has_equal_sides c ≡ true
unfolding men_in
tell_equal_sides c c_in same =
    flips_same _ _ (sides_told_at c c_in)
    ∙ all_true _ _ _ _ _ _ (eq-eqb _ _ (same Q)) (eq-eqb _ _ (same R)) (eq-eqb _ _ (same B)) (eq-eqb _ _ (same N)) (eq-eqb _ _ (same P)) (eq-eqb _ _ (same K))

four : (a b c d : Bool) → (a && (b && (c && d))) ≡ true → (a ≡ true) × (b ≡ true) × (c ≡ true) × (d ≡ true)
four a b c d all = grind (arith, and_parts)

apart_at : (c d : ℕ) (flipped turned : Bool) → c < 36 → d < 36 → apart_as c d flipped turned (material_of c) (material_of d) ≡ true
apart_at c d flipped turned c_in d_in = by_flips flipped turned
  where
    told : (f g : Bool) → Type 0
    told f g = apart_as c d f g (material_of c) (material_of d) ≡ true

    each : told false false × told false true × told true false × told true true
    each = four _ _ _ _ (passes_below (λ d. apart c (material_of c) d (material_of d)) 36 d (passes_below (λ c. all_below (λ d. apart c (material_of c) d (material_of d)) 36) 36 c all_apart c_in) d_in)

    by_flips : (flipped turned : Bool) → apart_as c d flipped turned (material_of c) (material_of d) ≡ true
    by_flips false false = each.0
    by_flips false true = each.1
    by_flips true false = each.2
    by_flips true true = each.3

pub either : (a b : Bool) → (a || b) ≡ true → (a ≡ true) ⊎ (b ≡ true)
either a b e = grind arith

-- classes with the same men are one class, with one flip but where both sides have the same men
pub one_class : (c d : ℕ) (flipped turned : Bool) → c < 36 → d < 36 → ((man : Man) → men_of (material_of c) flipped man ≡ men_of (material_of d) turned man) → (c ≡ d) × ((flipped ≡ turned) ⊎ (has_equal_sides c ≡ true))
one_class c d flipped turned c_in d_in same =
    let told = told_true _ _ (same_agree (men_of (material_of c) flipped) (men_of (material_of d) turned) same) (apart_at c d flipped turned c_in d_in) in
    let both = and_parts _ _ told in
    (eqb-true c d both.0, elim (either _ _ both.1) [ inl e ↦ inl (flips_same flipped turned e) | inr e ↦ inr e ])

-- an element that passes
pub passing_element : (p : ℕ → Bool) (xs : List ℕ) → list_any p xs ≡ true → (x : ℕ) × Contains xs x × (p x ≡ true)
passing_element p [] none = absurd (false≢true none)
passing_element p (x ∷ xs) some = elim (either (p x) (list_any p xs) some) [
  | inl here ↦ (x, (0, omega arith, refl), here)
  | inr later ↦ let rest = passing_element p xs later in (rest.0, (suc rest.1.0, omega (arith, rest.1.1), rest.1.2), rest.2)
]

pub all_less-contains : (xs : List ℕ) (n d : ℕ) → all_less xs n ≡ true → Contains xs d → d < n
unfolding all_less
all_less-contains [] n d all (k, k_in, is) = absurd (omega arith)
all_less-contains (x ∷ xs) n d all (zero, k_in, is) = let lt = ltb-true x n (and_parts (ltb x n) (all_less xs n) all).0 in omega (arith, is)
all_less-contains (x ∷ xs) n d all (suc k, k_in, is) = all_less-contains xs n d (and_parts (ltb x n) (all_less xs n) all).1 (k, omega arith, is)

pub smaller : (c d : ℕ) → c < 36 → Contains (children_of c) d → d < c
smaller c d c_in there =
    all_less-contains (row c) c d (passes_below (λ c. all_less (row c) c) 36 c all_smaller c_in)
    (subst (λ xs. Contains xs d) (sym (children_are_right c c_in)) there)

-- what each element passes
abbrev EachPasses : (Option Kind → Bool) → List (Option Kind) → Type 0
EachPasses p [] = Unit {0}
EachPasses p (x ∷ xs) = (p x ≡ true) × EachPasses p xs

taking_passes : (p : Option Kind → Bool) → list_all p takings ≡ true → (taken : Option Kind) → IfSome taken (λ kind. kind ≢ K) → p taken ≡ true
taking_passes p all kind ok = grind arith

promotion_passes : (p : Option Kind → Bool) → list_all p promotions ≡ true → (becomes : Option Kind) → IfSome becomes (λ kind. (kind ≢ P) × (kind ≢ K)) → p becomes ≡ true
promotion_passes p all kind ok = grind arith

-- a possible change leads to a child
pub covered : (c : ℕ) (change : Change) → c < 36 → IfSome change.taken (λ kind. kind ≢ K) → IfSome change.becomes (λ kind. (kind ≢ P) × (kind ≢ K)) → is_possible (material_of c) change ≡ true
    → (d : ℕ) × Contains (children_of c) d × (follows (material_of c) change (material_of d) ≡ true)
covered c change c_in taken_ok becomes_ok possible =
    let both = and_parts _ _ (passes_below (λ c. covers (material_of c) (row c)) 36 c all_covered c_in) in
    let found = told_true _ _ possible (at_mover change.mover both) in
    let child = passing_element _ (row c) found in
    (child.0, subst (λ xs. Contains xs child.0) (children_are_right c c_in) child.1, child.2)
  where
    here : (mover : Side) → by_mover (material_of c) (row c) mover ≡ true → by_kinds (material_of c) (row c) mover change.taken change.becomes ≡ true
    here mover all =
        let by_taken = λ (taken : Option Kind). list_all (by_kinds (material_of c) (row c) mover taken) promotions in
        promotion_passes (by_kinds (material_of c) (row c) mover change.taken) (taking_passes by_taken all change.taken taken_ok) change.becomes becomes_ok

    at_mover : (mover : Side) → (by_mover (material_of c) (row c) White ≡ true) × (by_mover (material_of c) (row c) Black ≡ true) → by_kinds (material_of c) (row c) mover change.taken change.becomes ≡ true
    at_mover White both = here White both.0
    at_mover Black both = here Black both.1
