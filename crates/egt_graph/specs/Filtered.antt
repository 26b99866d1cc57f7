-- The numbers below some number that pass a test, in order.
use Rattle.std.specs.Prelude.{◌≡◌, ℕ, zero, suc, ◌+◌, ◌<◌, ◌≤◌, ◌⊎◌, Bool, true, false, cond, List, [], ◌∷◌, filter, slice_index_or, refl, All, Contains}
use Rattle.std.specs.List.{range_with_len, AllPairs}
use Rattle.std.specs.List.Sorted.{IsStrictlyIncreasing}
use Rattle.std.proofs.Common.{arith, ap, ◌∙◌, sym, subst, inl, inr}
use Rattle.std.proofs.lemmas.Bool.{cases_eq, false≢true}
use Rattle.std.proofs.lemmas.List.Elements.{All-cons, All-nil, All-contains}
use Rattle.std.proofs.lemmas.List.Kept.{IsStrictlyIncreasing-filter, AllPairs-from_increasing}
use Rattle.egt_graph.specs.Frontier.{range-ascends}

unfoldable pub passing_below : ℕ → (ℕ → Bool) → List ℕ
passing_below n p = filter p (range_with_len 0 n)

-- what a test keeps passes it
passing_cond : (P : ℕ → Type 0) (b : Bool) (x : ℕ) (xs : List ℕ) → (b ≡ true → P x) → All P xs → All P (cond b (x ∷ xs) xs)
passing_cond P true x xs p h = All-cons P x xs (p refl) h
passing_cond P false x xs p h = h

pub passing : (P : ℕ → Type 0) (p : ℕ → Bool) → ((x : ℕ) → p x ≡ true → P x) → (xs : List ℕ) → All P (filter p xs)
passing P p h [] = All-nil P
passing P p h (x ∷ xs) = passing_cond P (p x) x (filter p xs) (h x) (passing P p h xs)

-- and what passes it is kept
contains_cond : (b : Bool) (x y : ℕ) (xs : List ℕ) → Contains xs y → Contains (cond b (x ∷ xs) xs) y
contains_cond true x y xs c = (suc c.0, omega (arith, c.1), c.2)
contains_cond false x y xs c = c

contains_here : (b : Bool) (x : ℕ) (xs : List ℕ) → b ≡ true → Contains (cond b (x ∷ xs) xs) x
contains_here true x xs e = (0, omega arith, refl)
contains_here false x xs e = absurd (false≢true e)

pub pass_contains : (p : ℕ → Bool) (a n x : ℕ) → a ≤ x → x < a + n → p x ≡ true → Contains (filter p (range_with_len a n)) x
pass_contains p a zero x low high h = absurd (omega arith)
pass_contains p a (suc n) x low high h = elim (cases_eq a x) [
  | inl e ↦ here e
  | inr ne ↦ contains_cond (p a) a x (filter p (range_with_len (a + 1) n)) (pass_contains p (a + 1) n x (omega arith) (omega arith) h)
]
  where
    here : a ≡ x → Contains (filter p (range_with_len a (suc n))) x
    here e = rw (← e) (contains_here (p a) a (filter p (range_with_len (a + 1) n)) (ap p e ∙ h))

pub none_pass : (p : ℕ → Bool) → ((x : ℕ) → p x ≡ false) → (xs : List ℕ) → filter p xs ≡ []
none_pass p h [] = refl
none_pass p h (x ∷ xs) = rw (h x) (none_pass p h xs)

-- what is kept of a range is of the range
kept_cond : (b : Bool) (a n x : ℕ) (xs : List ℕ) → All (λ k. k < n) xs → a < n → All (λ k. k < n) (cond b (a ∷ xs) xs)
kept_cond true a n x xs h lt = All-cons (λ k. k < n) a xs lt h
kept_cond false a n x xs h lt = h

kept_below : (p : ℕ → Bool) (a n m : ℕ) → a + n ≤ m → All (λ k. k < m) (filter p (range_with_len a n))
kept_below p a zero m le = All-nil (λ k. k < m)
kept_below p a (suc n) m le = kept_cond (p a) a m a (filter p (range_with_len (a + 1) n)) (kept_below p (a + 1) n m (omega arith)) (omega arith)

pub passing_has : (n : ℕ) (p : ℕ → Bool) (k : ℕ) → k < n → p k ≡ true → Contains (passing_below n p) k
unfolding passing_below
passing_has n p k lt passes = pass_contains p 0 n k (omega arith) (omega arith) passes

pub passing_passes : (n : ℕ) (p : ℕ → Bool) (k : ℕ) → Contains (passing_below n p) k → p k ≡ true
unfolding passing_below
passing_passes n p k c = All-contains (λ x. p x ≡ true) _ k (passing (λ x. p x ≡ true) p (λ x t. t) (range_with_len 0 n)) c

pub passing_is_below : (n : ℕ) (p : ℕ → Bool) (k : ℕ) → Contains (passing_below n p) k → k < n
unfolding passing_below
passing_is_below n p k c = All-contains (λ x. x < n) _ k (kept_below p 0 n n (omega arith)) c

all_members : (P : ℕ → Type 0) (xs : List ℕ) → ((k : ℕ) → Contains xs k → P k) → All P xs
all_members P [] h = All-nil P
all_members P (x ∷ xs) h = All-cons P x xs (h x (0, omega arith, refl)) (all_members P xs (λ k c. h k (suc c.0, omega (arith, c.1), c.2)))

pub passing_all : (P : ℕ → Type 0) (n : ℕ) (p : ℕ → Bool) → ((k : ℕ) → k < n → p k ≡ true → P k) → All P (passing_below n p)
passing_all P n p h = all_members P (passing_below n p) (λ k c. h k (passing_is_below n p k c) (passing_passes n p k c))

pub passing_ascends : (n : ℕ) (p : ℕ → Bool) → IsStrictlyIncreasing (passing_below n p)
unfolding passing_below
passing_ascends n p = IsStrictlyIncreasing-filter p (range_with_len 0 n) (range-ascends 0 n)

pub passing_none : (n : ℕ) (p : ℕ → Bool) → ((k : ℕ) → p k ≡ false) → passing_below n p ≡ []
unfolding passing_below
passing_none n p h = none_pass p h (range_with_len 0 n)

-- each number is less than those behind it
Rises : List ℕ → Type 0
Rises [] = Unit {0}
Rises (x ∷ xs) = ((k : ℕ) → Contains xs k → x < k) × Rises xs

pairs_rise : (xs : List ℕ) → AllPairs (λ x y. x < y) xs → Rises xs
unfolding Rises
pairs_rise [] h = tt
pairs_rise (x ∷ xs) h = (λ k c. behind k c, pairs_rise xs (λ i j d lt below. h (suc i) (suc j) d (omega arith) (omega (arith, below))))
  where
    behind : (k : ℕ) → Contains xs k → x < k
    behind k c = let at : x < slice_index_or xs c.0 k = h 0 (suc c.0) k (omega arith) (omega (arith, c.1)) in subst (λ y. x < y) c.2 at

in_tail : (x y : ℕ) (xs : List ℕ) → Contains (x ∷ xs) y → (y ≡ x) ⊎ Contains xs y
in_tail x y xs (zero, lt, is) = inl (sym is)
in_tail x y xs (suc k, lt, is) = inr (k, omega (arith, lt), is)

on : (x y : ℕ) (xs : List ℕ) → Contains xs y → Contains (x ∷ xs) y
on x y xs c = (suc c.0, omega (arith, c.1), c.2)

none_in : (x : ℕ) → Contains [] x → ⊥
none_in x c = omega (arith, c.1)

-- lists that rise and have the same members are the same
rising_same : (xs ys : List ℕ) → Rises xs → Rises ys → ((k : ℕ) → Contains xs k → Contains ys k) → ((k : ℕ) → Contains ys k → Contains xs k) → xs ≡ ys
unfolding Rises
rising_same [] [] r s there back = refl
rising_same [] (y ∷ ys) r s there back = absurd (none_in y (back y (0, omega arith, refl)))
rising_same (x ∷ xs) [] r s there back = absurd (none_in x (there x (0, omega arith, refl)))
rising_same (x ∷ xs) (y ∷ ys) r s there back =
    let same : x ≡ y = first in
    let rest : xs ≡ ys = rising_same xs ys r.1 s.1 there_on back_on in
    (λ i. same i ∷ rest i)
  where
    first : x ≡ y
    first = elim (in_tail y x ys (there x (0, omega arith, refl))) [
      | inl e ↦ e
      | inr behind ↦ elim (in_tail x y xs (back y (0, omega arith, refl))) [
        | inl e ↦ sym e
        | inr other ↦ let lt = s.0 x behind in let gt = r.0 y other in absurd (omega (arith, lt, gt))
      ]
    ]

    there_on : (k : ℕ) → Contains xs k → Contains ys k
    there_on k c = elim (in_tail y k ys (there k (on x k xs c))) [
      | inl e ↦ let lt = r.0 k c in let same = first in absurd (omega (arith, lt, e, same))
      | inr behind ↦ behind
    ]

    back_on : (k : ℕ) → Contains ys k → Contains xs k
    back_on k c = elim (in_tail x k xs (back k (on y k ys c))) [
      | inl e ↦ let lt = s.0 k c in let same = first in absurd (omega (arith, lt, e, same))
      | inr behind ↦ behind
    ]

-- an ascending list of exactly the numbers below n that pass is that list
pub passing_is : (n : ℕ) (p : ℕ → Bool) (xs : List ℕ) → IsStrictlyIncreasing xs → ((k : ℕ) → Contains xs k → (k < n) × (p k ≡ true)) → ((k : ℕ) → k < n → p k ≡ true → Contains xs k) → xs ≡ passing_below n p
passing_is n p xs ascends there back =
    rising_same xs (passing_below n p) (pairs_rise xs (AllPairs-from_increasing xs ascends))
    (pairs_rise (passing_below n p) (AllPairs-from_increasing (passing_below n p) (passing_ascends n p)))
    (λ k c. let h = there k c in passing_has n p k h.0 h.1)
    (λ k c. back k (passing_is_below n p k c) (passing_passes n p k c))

-- the first number of such a list is its least
pub first_is_least : (n : ℕ) (p : ℕ → Bool) (x : ℕ) (xs : List ℕ) → x ∷ xs ≡ passing_below n p → (k : ℕ) → Contains (x ∷ xs) k → x ≤ k
unfolding Rises
first_is_least n p x xs e k c = elim (in_tail x k xs c) [
  | inl same ↦ omega (arith, same)
  | inr behind ↦ let lt = rises.0 k behind in omega (arith, lt)
]
  where
    rises : Rises (x ∷ xs)
    rises = subst Rises (sym e) (pairs_rise (passing_below n p) (AllPairs-from_increasing (passing_below n p) (passing_ascends n p)))
