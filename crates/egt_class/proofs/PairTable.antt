-- The table of classes by two men is right at each pair.
use Rattle.std.proofs.Common.{◌≡◌, ◌≢◌, ℕ, ◌+◌, ◌*◌, ◌<◌, ◌≤◌, ◌&&◌, Bool, true, false, not, cond, eqb, ltb, Option}
use Rattle.std.proofs.Common.{Some, IfSome, if◌then◌else◌, refl, sym, ap₂, ◌∙◌, arith}
use Rattle.egt_class.specs.Prelude.{and_parts, eqb_tells, R, other_side, all_below, men_beside, first_slot, AreNonKings}
use Rattle.egt_class.specs.Prelude.{ltb-true, eqb-true, Man, count_of, materials, agree_at, slot_of, kind_slot, class_at}
use Rattle.egt_class.specs.Prelude.{eq-eqb, Side, White, Black, Kind, B, N, P, K, Setup, men_in, IsOf, man_of, flip_at}
use Rattle.egt_class.specs.Prelude.{Q, kind_number, side_number, stands_here, passes_below, material_of, has_equal_sides}
use Rattle.egt_class.proofs.CountsAgree.{all_agree}
use Rattle.egt_class.proofs.NonKings.{kind_few}

-- how many of this man the class has, in the one colours or the other
abbrev pub counted : ℕ → Bool → Man → ℕ
counted c flipped man = men_in c (if flipped then other_side man.side else man.side) man.kind

abbrev one_where : ℕ → ℕ → ℕ
one_where a b = cond (eqb a b) 1 0

-- the class and the flip, and that those rows' men are its men
abbrev fits : ℕ → Bool → ℕ → ℕ → Bool
fits c flipped a b =
    ltb c 36 && (not (has_equal_sides c && flipped) && agree_at men_beside (counted c flipped) (λ man. one_where (slot_of (Some man)) a + one_where (slot_of (Some man)) b))

abbrev is_right : ℕ → ℕ → Bool
is_right a b = fits (class_at (11 * a + b)) (flip_at (11 * a + b)) a b

all_right : all_below (λ a. all_below (is_right a) 11) 11 ≡ true
unfolding all_below class_at flip_at men_in has_equal_sides material_of materials
all_right = refl

-- one king a side is in every class
abbrev one_king_each : ℕ → Bool
one_king_each c = eqb (men_in c White K) 1 && eqb (men_in c Black K) 1

one_king : all_below one_king_each 36 ≡ true
unfolding all_below men_in material_of materials
one_king = refl

right_at : (a b : ℕ) → a < 11 → b < 11 → is_right a b ≡ true
right_at a b a_in b_in = passes_below (is_right a) 11 b (passes_below (λ a. all_below (is_right a) 11) 11 a all_right a_in) b_in

pub pair_below : (a b : ℕ) → a < 11 → b < 11 → class_at (11 * a + b) < 36
pair_below a b a_in b_in = ltb-true _ _ (and_parts _ _ (right_at a b a_in b_in)).0

not_both : (a b : Bool) → not (a && b) ≡ true → a ≡ true → b ≡ false
not_both a b h e = grind arith

pub pair_unflipped : (a b : ℕ) → a < 11 → b < 11 → has_equal_sides (class_at (11 * a + b)) ≡ true → flip_at (11 * a + b) ≡ false
pair_unflipped a b a_in b_in equal = not_both _ _ (and_parts _ _ (and_parts _ _ (right_at a b a_in b_in)).1).0 equal

pair_counts : (a b : ℕ) → a < 11 → b < 11 → (side : Side) (kind : Kind) → kind ≢ K
    → counted (class_at (11 * a + b)) (flip_at (11 * a + b)) (man_of side kind) ≡ one_where (slot_of (Some (man_of side kind))) a + one_where (slot_of (Some (man_of side kind))) b
pair_counts a b a_in b_in side kind beside =
    all_agree (counted (class_at (11 * a + b)) (flip_at (11 * a + b))) (λ man. one_where (slot_of (Some man)) a + one_where (slot_of (Some man)) b)
    (and_parts _ _ (and_parts _ _ (right_at a b a_in b_in)).1).1 side kind beside

pub one_king_in : (c : ℕ) (side : Side) → c < 36 → men_in c side K ≡ 1
one_king_in c White c_in = eqb-true _ _ (and_parts _ _ (passes_below one_king_each 36 c one_king c_in)).0
one_king_in c Black c_in = eqb-true _ _ (and_parts _ _ (passes_below one_king_each 36 c one_king c_in)).1

-- two tests that say the same
same_test : (a b c d : ℕ) → (a ≡ b → c ≡ d) → (c ≡ d → a ≡ b) → one_where a b ≡ one_where c d
same_test a b c d f g = grind (arith, cond, eqb_tells, eq-eqb)

slot_is : (first : ℕ) (kind : Kind) → kind ≢ K → kind_slot first kind ≡ first + kind_number kind
slot_is first kind other = grind arith

slots : (s t : Side) (k l : Kind) → k ≢ K → l ≢ K → one_where (6 * side_number s + kind_number k) (6 * side_number t + kind_number l) ≡ one_where (kind_slot (first_slot s) k) (kind_slot (first_slot t) l)
slots s t k l k_other l_other = grind (arith, kind_few, slot_is, first_slot, kind_slot, kind_number, side_number, same_test)

some_slot : (first : ℕ) (kind : Kind) → 1 ≤ first → kind ≢ K → 1 ≤ kind_slot first kind
some_slot first kind some other = let is = slot_is first kind other in omega arith

first_some : (side : Side) → 1 ≤ first_slot side
first_some side = grind arith

none_where : (a : ℕ) → 1 ≤ a → one_where a 0 ≡ 0
none_where a some = grind (arith, eqb_tells, cond)

here_by_slot : (man : Man) (o : Option Man) → man.kind ≢ K → IfSome o (λ m. m.kind ≢ K) → stands_here man o ≡ one_where (slot_of (Some man)) (slot_of o)
here_by_slot man h1 man_other o_other = grind (arith, some_slot, first_slot, first_some, none_where, slot_of, slots)

pub slot_below : (o : Option Man) → IfSome o (λ m. m.kind ≢ K) → slot_of o < 11
slot_below h0 other = grind (arith, kind_few, slot_is, first_slot)

-- whose men beside the kings are a pair's is of the pair's class
pub pair_is_of : (p : Setup) (first second : Option Man) → AreNonKings p first second → IsOf (class_at (11 * slot_of first + slot_of second)) (flip_at (11 * slot_of first + slot_of second)) p
pair_is_of p first second beside = record { men = λ man. by_kind man.side man.kind }
  where
    a_in : slot_of first < 11
    a_in = slot_below first beside.first_other

    b_in : slot_of second < 11
    b_in = slot_below second beside.second_other

    c : ℕ
    c = class_at (11 * slot_of first + slot_of second)

    f : Bool
    f = flip_at (11 * slot_of first + slot_of second)

    other : (side : Side) (kind : Kind) → kind ≢ K → count_of p.men (man_of side kind) ≡ counted c f (man_of side kind)
    other side kind not_king =
        beside.others (man_of side kind) not_king
        ∙ ap₂ (λ m n. m + n) (here_by_slot (man_of side kind) first not_king beside.first_other) (here_by_slot (man_of side kind) second not_king beside.second_other)
        ∙ sym (pair_counts (slot_of first) (slot_of second) a_in b_in side kind not_king)

    by_kind : (side : Side) (kind : Kind) → count_of p.men (man_of side kind) ≡ counted c f (man_of side kind)
    by_kind side K = beside.kings side ∙ sym (one_king_in c _ (pair_below _ _ a_in b_in))
    by_kind side Q = other side Q (λ e. cc)
    by_kind side R = other side R (λ e. cc)
    by_kind side B = other side B (λ e. cc)
    by_kind side N = other side N (λ e. cc)
    by_kind side P = other side P (λ e. cc)
