-- The list of legal moves: what it holds, and that no other list in order holds the same.
use Rattle.std.proofs.Common.{◌≡◌, suc, ◌+◌, ◌*◌, ◌<◌, ◌↔◌, ◌⊎◌, [], ◌∷◌, map, Some, None, refl, sym, ap, ◌∙◌, inl, inr}
use Rattle.std.proofs.Common.{ℕ, zero, Bool, true, false, cond, List, ◌++◌, length, Option, slice_index_or, arith, subst}
use Rattle.egt_moves.specs.Prelude.{Contains, filter, cases_eq, false≢true, Contains-append_left, Contains-append_right}
use Rattle.egt_moves.specs.Prelude.{Contains-append_cases, Kind, Q, R, B, N, P, K, Setup, IsAdmissible, Decided}
use Rattle.egt_moves.specs.Prelude.{tells_so, tells_where, Move, decided_legal, goes_on_board, leads_to_one, Leads}
use Rattle.egt_moves.specs.Prelude.{IsLegal, promotions, moves_between, moves_from, moves_below, all_moves, is_legal}
use Rattle.egt_moves.specs.Prelude.{led_to, played, moves_of, place_of, promotion_place, IsInOrder}
use Rattle.egt_moves.proofs.ListGrows.{promotion_small}
use Rattle.egt_moves.proofs.MoveOrder.{Contains-head, Contains-tail}

-- the first, or a later one
Contains-cases : {X : Type 0} (x y : X) (xs : List X) → Contains (x ∷ xs) y → (x ≡ y) ⊎ Contains xs y
Contains-cases x y xs h = grind (arith, length, slice_index_or)

Contains-none : {A : Type 0} (m : Move) → Contains [] m → A
Contains-none m h = absurd (omega (arith, h.1))

IsInOrder-append : (xs ys : List Move) → IsInOrder xs → IsInOrder ys → ((m n : Move) → Contains xs m → Contains ys n → place_of m < place_of n) → IsInOrder (xs ++ ys)
IsInOrder-append [] ys first second before = second
IsInOrder-append (x ∷ xs) ys first second before = (
  (λ n there. elim (Contains-append_cases xs ys n there) [
    | inl h ↦ first.0 n h
    | inr h ↦ before x n (Contains-head x xs) h
  ]),
  IsInOrder-append xs ys first.1 second (λ m n there. before m n (Contains-tail x m xs there)),
)

Contains-filter : (test : Move → Bool) (xs : List Move) (m : Move) → Contains (filter test xs) m → Contains xs m × (test m ≡ true)
Contains-filter test [] m h = Contains-none m h
Contains-filter test (x ∷ xs) m h = by_test (Contains-filter test xs m) (test x) refl h
  where
    by_test : (Contains (filter test xs) m → Contains xs m × (test m ≡ true)) → (b : Bool) → test x ≡ b → Contains (cond b (x ∷ filter test xs) (filter test xs)) m → Contains (x ∷ xs) m × (test m ≡ true)
    by_test later false e h = let rest = later h in (Contains-tail x m xs rest.0, rest.1)
    by_test later true e h = elim (Contains-cases x m (filter test xs) h) [
      | inl same ↦ (subst (Contains (x ∷ xs)) same (Contains-head x xs), ap test (sym same) ∙ e)
      | inr there ↦ let rest = later there in (Contains-tail x m xs rest.0, rest.1)
    ]

filter-Contains : (test : Move → Bool) (xs : List Move) (m : Move) → Contains xs m → test m ≡ true → Contains (filter test xs) m
filter-Contains test [] m h passes = Contains-none m h
filter-Contains test (x ∷ xs) m h passes = by_test (λ there. filter-Contains test xs m there passes) (test x) refl (Contains-cases x m xs h)
  where
    by_test : (Contains xs m → Contains (filter test xs) m) → (b : Bool) → test x ≡ b → (x ≡ m) ⊎ Contains xs m → Contains (cond b (x ∷ filter test xs) (filter test xs)) m
    by_test kept false e (inl same) = absurd (false≢true (sym e ∙ ap test same ∙ passes))
    by_test kept false e (inr later) = kept later
    by_test kept true e (inl same) = subst (Contains (x ∷ filter test xs)) same (Contains-head x (filter test xs))
    by_test kept true e (inr later) = Contains-tail x m (filter test xs) (kept later)

IsInOrder-filter : (test : Move → Bool) (xs : List Move) → IsInOrder xs → IsInOrder (filter test xs)
IsInOrder-filter test [] ordered = tt
IsInOrder-filter test (x ∷ xs) ordered = by_test (IsInOrder-filter test xs ordered.1) (test x)
  where
    by_test : IsInOrder (filter test xs) → (b : Bool) → IsInOrder (cond b (x ∷ filter test xs) (filter test xs))
    by_test rest false = rest
    by_test rest true = ((λ n there. ordered.0 n (Contains-filter test xs n there).0), rest)

-- lists in order with the same moves are the same
pub in_order_same : (xs ys : List Move) → IsInOrder xs → IsInOrder ys → ((m : Move) → Contains xs m → Contains ys m) → ((m : Move) → Contains ys m → Contains xs m) → xs ≡ ys
in_order_same [] [] first second there back = refl
in_order_same [] (y ∷ ys) first second there back = Contains-none y (back y (Contains-head y ys))
in_order_same (x ∷ xs) [] first second there back = Contains-none x (there x (Contains-head x xs))
in_order_same (x ∷ xs) (y ∷ ys) first second there back =
    let tail = in_order_same xs ys first.1 second.1
    (λ m h. elim (Contains-cases y m ys (there m (Contains-tail x m xs h))) [
      | inl same ↦ let less = first.0 m h in let e : place_of x ≡ place_of m = ap place_of (head ∙ same) in absurd (omega arith)
      | inr later ↦ later
    ])
    (λ m h. elim (Contains-cases x m xs (back m (Contains-tail y m ys h))) [
      | inl same ↦ let less = second.0 m h in let e : place_of y ≡ place_of m = ap place_of (sym head ∙ same) in absurd (omega arith)
      | inr later ↦ later
    ]) in
    λ i. head i ∷ tail i
  where
    head : x ≡ y
    head = elim (Contains-cases y x ys (there x (Contains-head x xs))) [
      | inl same ↦ sym same
      | inr later ↦ elim (Contains-cases x y xs (back y (Contains-head y ys))) [
        | inl same ↦ same
        | inr sooner ↦ let a = second.0 x later in let b = first.0 y sooner in absurd (omega arith)
      ]
    ]

-- the moves between two squares
between-is : (from to : ℕ) (promos : List (Option Kind)) (m : Move) → Contains (map (λ promo. record { from = from; to = to; promo = promo }) promos) m → (m.from ≡ from) × (m.to ≡ to) × Contains promos m.promo
between-is from to [] m h = Contains-none m h
between-is from to (promo ∷ promos) m h = elim (Contains-cases (record { from = from; to = to; promo = promo }) m (map (λ o. record { from = from; to = to; promo = o }) promos) h) [
  | inl same ↦ (ap (λ (x : Move). x.from) (sym same), ap (λ (x : Move). x.to) (sym same), (0, omega arith, ap (λ (x : Move). x.promo) same))
  | inr later ↦ let rest = between-is from to promos m later in (rest.0, rest.1, (suc rest.2.0, omega (arith, rest.2.1), rest.2.2))
]

in_between : (m : Move) → Contains (moves_between m.from m.to) m
in_between m = by_promo m.promo
  where
    by_promo : (o : Option Kind) → Contains (moves_between m.from m.to) (record { from = m.from; to = m.to; promo = o })
    by_promo None = (0, omega arith, refl)
    by_promo (Some Q) = (1, omega arith, refl)
    by_promo (Some R) = (2, omega arith, refl)
    by_promo (Some B) = (3, omega arith, refl)
    by_promo (Some N) = (4, omega arith, refl)
    by_promo (Some P) = (5, omega arith, refl)
    by_promo (Some K) = (6, omega arith, refl)

-- each comes after the last, which has the place k
abbrev IsRising : ℕ → List (Option Kind) → Type 0
IsRising k [] = Unit {0}
IsRising k (o ∷ os) = (k < promotion_place o) × IsRising (promotion_place o) os

later_between : (from to k : ℕ) (os : List (Option Kind)) (m : Move) → IsRising k os → Contains (map (λ promo. record { from = from; to = to; promo = promo }) os) m → (from * 64 + to) * 8 + k < place_of m
later_between from to k [] m rising h = Contains-none m h
later_between from to k (o ∷ os) m rising h = elim (Contains-cases (record { from = from; to = to; promo = o }) m (map (λ promo. record { from = from; to = to; promo = promo }) os) h) [
  | inl same ↦ let less = rising.0 in subst (λ (x : Move). (from * 64 + to) * 8 + k < place_of x) same (omega arith)
  | inr later ↦ let less = rising.0 in let rest = later_between from to (promotion_place o) os m rising.1 later in omega arith
]

rising-ordered : (from to : ℕ) (o : Option Kind) (os : List (Option Kind)) → IsRising (promotion_place o) os → IsInOrder (map (λ promo. record { from = from; to = to; promo = promo }) (o ∷ os))
rising-ordered from to o [] rising = ((λ m h. Contains-none m h), tt)
rising-ordered from to o (o' ∷ os) rising = (
  (λ m h. later_between from to (promotion_place o) (o' ∷ os) m rising h),
  rising-ordered from to o' os rising.1,
)

between-ordered : (from to : ℕ) → IsInOrder (moves_between from to)
between-ordered from to = grind (arith, rising-ordered)

-- the moves from one square
from-is : (from n : ℕ) (m : Move) → Contains (moves_from from n) m → (m.from ≡ from) × (m.to < n)
unfolding moves_from
from-is from zero m h = Contains-none m h
from-is from (suc n) m h = elim (Contains-append_cases (moves_from from n) (moves_between from n) m h) [
  | inl before ↦ let rest = from-is from n m before in (rest.0, omega (arith, rest.1))
  | inr here ↦ let is = between-is from n promotions m here in (is.0, omega (arith, is.1))
]

in_from : (n : ℕ) (m : Move) → m.to < n → Contains (moves_from m.from n) m
unfolding moves_from
in_from zero m less = absurd (omega arith)
in_from (suc n) m less = elim (cases_eq m.to n) [
  | inl e ↦ Contains-append_right (moves_from m.from n) (moves_between m.from n) m (subst (λ t. Contains (moves_between m.from t) m) e (in_between m))
  | inr other ↦ Contains-append_left (moves_from m.from n) (moves_between m.from n) m (in_from n m (omega arith))
]

from-ordered : (from n : ℕ) → IsInOrder (moves_from from n)
unfolding moves_from
from-ordered from zero = tt
from-ordered from (suc n) = IsInOrder-append (moves_from from n) (moves_between from n) (from-ordered from n) (between-ordered from n) (λ a b first second.
    let a_is = from-is from n a first in
    let b_is = between-is from n promotions b second in
    let a_from = a_is.0 in
    let a_to = a_is.1 in
    let b_from = b_is.0 in
    let b_to = b_is.1 in
    let small = promotion_small a.promo in omega arith)

-- the moves from each square
below-is : (n : ℕ) (m : Move) → Contains (moves_below n) m → (m.from < n) × (m.to < 64)
unfolding moves_below
below-is zero m h = Contains-none m h
below-is (suc n) m h = elim (Contains-append_cases (moves_below n) (moves_from n 64) m h) [
  | inl before ↦ let rest = below-is n m before in (omega (arith, rest.0), rest.1)
  | inr here ↦ let is = from-is n 64 m here in (omega (arith, is.0), is.1)
]

in_below : (n : ℕ) (m : Move) → m.from < n → m.to < 64 → Contains (moves_below n) m
unfolding moves_below
in_below zero m less to_in = absurd (omega arith)
in_below (suc n) m less to_in = elim (cases_eq m.from n) [
  | inl e ↦ Contains-append_right (moves_below n) (moves_from n 64) m (subst (λ s. Contains (moves_from s 64) m) e (in_from 64 m to_in))
  | inr other ↦ Contains-append_left (moves_below n) (moves_from n 64) m (in_below n m (omega arith) to_in)
]

below-ordered : (n : ℕ) → IsInOrder (moves_below n)
unfolding moves_below
below-ordered zero = tt
below-ordered (suc n) = IsInOrder-append (moves_below n) (moves_from n 64) (below-ordered n) (from-ordered n 64) (λ a b first second.
    let a_is = below-is n a first in
    let b_is = from-is n 64 b second in
    let a_from = a_is.0 in
    let a_to = a_is.1 in
    let b_from = b_is.0 in
    let small = promotion_small a.promo in omega arith)

pub moves_of-ordered : (p : Setup) → IsInOrder (moves_of p)
unfolding moves_of all_moves
moves_of-ordered p = IsInOrder-filter (is_legal p) (moves_below 64) (below-ordered 64)

pub moves_of-legal : (p : Setup) (m : Move) → Contains (moves_of p) m → IsLegal p m
unfolding moves_of all_moves
moves_of-legal p m h = tells_so (decided_legal p m) (Contains-filter (is_legal p) (moves_below 64) m h).1

pub in_moves_of : (p : Setup) (m : Move) → IsAdmissible p → IsLegal p m → Contains (moves_of p) m
unfolding moves_of all_moves
in_moves_of p m ok legal = filter-Contains (is_legal p) (moves_below 64) m
    (in_below 64 m (ok.on_board m.from legal.1.man legal.1.stands) (goes_on_board p legal.1.man m.from m.to legal.1.goes)) (tells_where (decided_legal p m) legal)

-- a list in order of exactly the legal moves is moves_of
pub moves_of-is : (p : Setup) (ms : List Move) → IsAdmissible p → IsInOrder ms → ((m : Move) → Contains ms m ↔ IsLegal p m) → ms ≡ moves_of p
moves_of-is p ms ok ordered legal = in_order_same ms (moves_of p) ordered (moves_of-ordered p)
    (λ m h. in_moves_of p m ok ((legal m).0 h)) (λ m h. (legal m).1 (moves_of-legal p m h))

-- where a move leads, as a function
pub leads_played : (p q : Setup) (m : Move) → (Leads p m q → played p m ≡ Some q) × (played p m ≡ Some q → Leads p m q)
leads_played p q m = (there (decided_legal p m), back (decided_legal p m))
  where
    there : (d : Decided (IsLegal p m)) → Leads p m q → led_to d ≡ Some q
    there (inl legal) leads = ap Some (leads_to_one p legal.0 q m legal.1 leads)
    there (inr illegal) leads = absurd (illegal (q, leads))

    back : (d : Decided (IsLegal p m)) → led_to d ≡ Some q → Leads p m q
    back d e = grind arith
