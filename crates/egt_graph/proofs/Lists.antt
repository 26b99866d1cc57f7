-- Counts and tests over lists.
use Rattle.std.proofs.Common.{◌≡◌, ℕ, suc, ◌+◌, ◌<◌, ◌≤◌, not, eqb, ltb, [], ◌∷◌, refl, sym, ap, ap₂, ◌∙◌, inl, inr, All}
use Rattle.std.proofs.Common.{zero, Bool, true, false, cond, ◌&&◌, ◌||◌, List, length, get_or, arith, count_by, Contains}
use Rattle.egt_graph.specs.Prelude.{list_any, list_all, IsStrictlyIncreasing, count_of, is_empty, or_left, or_right}
use Rattle.egt_graph.specs.Prelude.{false≢true, cases_Bool, lt-ltb, eqb-true, eq-eqb, ne_eqb, AllPass-from_list_all}
use Rattle.egt_graph.specs.Prelude.{list_all-from_AllPass, sum_by-cons, All-contains, All-contains_itself, All-head}
use Rattle.egt_graph.specs.Prelude.{All-tail, All-weaker}

-- ---- tests of each and of some element

-- a list has an element that passes, or each that it contains does
pub any_contains : {X : Type 0} (p : X → Bool) (xs : List X) → list_any p xs ≡ true → (x : X) × Contains xs x × (p x ≡ true)
any_contains p [] h = absurd (false≢true h)
any_contains p (x ∷ xs) h = elim (cases_Bool (p x)) [
  | inl t ↦ (x, (0, omega arith, refl), t)
  | inr f ↦ let rest = any_contains p xs (sym (ap (λ b. b || list_any p xs) f) ∙ h) in (rest.0, (suc rest.1.0, omega (arith, rest.1.1), rest.1.2), rest.2)
]

pub contains_any : {X : Type 0} (p : X → Bool) (xs : List X) (x : X) → Contains xs x → p x ≡ true → list_any p xs ≡ true
contains_any p [] x (k, lt, is) t = absurd (omega (arith, lt))
contains_any p (y ∷ ys) x (zero, lt, is) t = or_left (p y) (list_any p ys) (ap p is ∙ t)
contains_any p (y ∷ ys) x (suc k, lt, is) t = or_right (p y) (list_any p ys) (contains_any p ys x (k, omega (arith, lt), is) t)

pub all_contains : {X : Type 0} (p : X → Bool) (xs : List X) (x : X) → list_all p xs ≡ true → Contains xs x → p x ≡ true
all_contains p xs x all has = All-contains (λ y. p y ≡ true) xs x (AllPass-from_list_all p xs all) has

pub contains_all : {X : Type 0} (p : X → Bool) (xs : List X) → ((x : X) → Contains xs x → p x ≡ true) → list_all p xs ≡ true
contains_all p xs each = list_all-from_AllPass p xs (All-weaker (Contains xs) (λ x. p x ≡ true) each xs (All-contains_itself xs))

pub any_weaker : {X : Type 0} (p q : X → Bool) → ((x : X) → p x ≡ true → q x ≡ true) → (xs : List X) → list_any p xs ≡ true → list_any q xs ≡ true
any_weaker p q w xs h = let (x, has, t) = any_contains p xs h in contains_any q xs x has (w x t)

pub all_weaker : {X : Type 0} (p q : X → Bool) → ((x : X) → p x ≡ true → q x ≡ true) → (xs : List X) → list_all p xs ≡ true → list_all q xs ≡ true
all_weaker p q w xs h = contains_all q xs (λ x has. w x (all_contains p xs x h has))

pub any_same : {X : Type 0} (p q : X → Bool) → ((x : X) → p x ≡ q x) → (xs : List X) → list_any p xs ≡ list_any q xs
any_same p q e h3 = grind (arith, ap₂)

-- some element passes p, and each passes q
pub any_all_clash : {X : Type 0} (P : X → Type 0) (p q : X → Bool) → ((x : X) → P x → p x ≡ true → q x ≡ true → ⊥) → (xs : List X) → All P xs → list_any p xs ≡ true → list_all q xs ≡ true → ⊥
any_all_clash P p q clash xs each some all =
    let (x, has, t) = any_contains p xs some in clash x (All-contains P xs x each has) t (all_contains q xs x all has)

or_swap : (a b c d : Bool) → ((a || b) || (c || d)) ≡ ((a || c) || (b || d))
or_swap a b c d = grind arith

pub any_or : {X : Type 0} (p q r : X → Bool) → ((x : X) → p x ≡ (q x || r x)) → (xs : List X) → list_any p xs ≡ (list_any q xs || list_any r xs)
any_or p q r e [] = refl
any_or p q r e (x ∷ xs) = ap₂ (λ a b. a || b) (e x) (any_or p q r e xs) ∙ or_swap (q x) (r x) (list_any q xs) (list_any r xs)

-- ---- counts

pub count_by-cons : {X : Type 0} (p : X → Bool) (x : X) (xs : List X) → count_by p (x ∷ xs) ≡ cond (p x) 1 0 + count_by p xs
count_by-cons p x xs = sum_by-cons (λ y. cond (p y) 1 0) x xs

pub count_split : {X : Type 0} (p q r : X → Bool) → ((x : X) → cond (p x) 1 0 ≡ cond (q x) 1 0 + cond (r x) 1 0) → (xs : List X) → count_by p xs ≡ count_by q xs + count_by r xs
count_split p q r e [] = refl
count_split p q r e (x ∷ xs) =
    let a = count_by-cons p x xs in
    let b = count_by-cons q x xs in
    let c = count_by-cons r x xs in
    let d = e x in
    let h = count_split p q r e xs in
    omega arith

pub count_same : {X : Type 0} (p q : X → Bool) → ((x : X) → p x ≡ q x) → (xs : List X) → count_by p xs ≡ count_by q xs
count_same p q e h3 = grind (arith, count_by-cons, ap₂)

pub count_yes : {X : Type 0} (p : X → Bool) (x : X) (xs : List X) → p x ≡ true → count_by p (x ∷ xs) ≡ 1 + count_by p xs
count_yes p x xs h = count_by-cons p x xs ∙ ap (λ b. cond b 1 0 + count_by p xs) h

pub count_no : {X : Type 0} (p : X → Bool) (x : X) (xs : List X) → p x ≡ false → count_by p (x ∷ xs) ≡ count_by p xs
count_no p x xs h = let e = count_by-cons p x xs ∙ ap (λ b. cond b 1 0 + count_by p xs) h in omega arith

-- none fails where each passes
pub none_fails : {X : Type 0} (p : X → Bool) (xs : List X) → eqb (count_by (λ x. not (p x)) xs) 0 ≡ list_all p xs
none_fails p [] = refl
none_fails p (x ∷ xs) = elim (cases_Bool (p x)) [
  | inl t ↦ rw (count_no (λ y. not (p y)) x xs (ap not t), t) (none_fails p xs)
  | inr f ↦ rw (count_yes (λ y. not (p y)) x xs (ap not f), f) (ne_eqb _ _ (λ e. absurd (omega arith)))
]

-- where each passes
pub all_count : {X : Type 0} (p : X → Bool) → ((x : X) → p x ≡ true) → (xs : List X) → count_by p xs ≡ length xs
all_count p e [] = refl
all_count p e (x ∷ xs) =
    let c = count_by-cons p x xs ∙ ap (λ b. cond b 1 0 + count_by p xs) (e x) in
    let r = all_count p e xs in
    omega arith

pub some_counts : {X : Type 0} (p : X → Bool) (xs : List X) → list_any p xs ≡ ltb 0 (count_by p xs)
some_counts p [] = refl
some_counts p (x ∷ xs) = elim (cases_Bool (p x)) [
  | inl t ↦ rw (count_yes p x xs t, t) (sym (lt-ltb _ _ (omega arith)))
  | inr f ↦ rw (count_no p x xs f, f) (some_counts p xs)
]

pub counted_some : {X : Type 0} (p : X → Bool) (xs : List X) → 0 < count_by p xs → is_empty xs ≡ false
counted_some p xs h = grind arith

pub counted_contains : (x : ℕ) (xs : List ℕ) → 0 < count_of x xs → Contains xs x
counted_contains x [] h = absurd (omega arith)
counted_contains x (y ∷ ys) h = elim (cases_Bool (eqb y x)) [
  | inl t ↦ (0, omega arith, eqb-true y x t)
  | inr f ↦
      let e = count_no (λ z. eqb z x) y ys f in
      let c = counted_contains x ys (omega arith) in
      (suc c.0, omega (arith, c.1), c.2)
]

pub contains_counted : (x : ℕ) (xs : List ℕ) (k : ℕ) → k < length xs → get_or xs k x ≡ x → 0 < count_of x xs
contains_counted x [] k h e = absurd (omega arith)
contains_counted x (y ∷ ys) zero h e = let t = count_yes (λ z. eqb z x) y ys (eq-eqb y x e) in omega arith
contains_counted x (y ∷ ys) (suc k) h e =
    let a = contains_counted x ys k (omega arith) e in
    let b = count_by-cons (λ z. eqb z x) y ys in
    omega arith

ascends_tail : (x : ℕ) (xs : List ℕ) → IsStrictlyIncreasing (x ∷ xs) → IsStrictlyIncreasing xs
ascends_tail x xs h k l = let e : suc k + 1 ≡ suc (k + 1) = omega arith in rw e at (h (suc k) (omega arith))

-- what stands after the head of an ascending list is above it
above_head : (x : ℕ) (xs : List ℕ) → IsStrictlyIncreasing (x ∷ xs) → (y : ℕ) → y ≤ x → count_of y xs ≡ 0
above_head x [] h y le = refl
above_head x (z ∷ zs) h y le =
    let first : x < z = h 0 (omega arith) in
    count_no (λ w. eqb w y) z zs (ne_eqb z y (λ e. absurd (omega arith))) ∙ above_head z zs (ascends_tail x (z ∷ zs) h) y (omega arith)

pub count_ascending : (x : ℕ) (xs : List ℕ) → IsStrictlyIncreasing xs → count_of x xs ≤ 1
count_ascending x [] h = omega arith
count_ascending x (y ∷ ys) h = elim (cases_Bool (eqb y x)) [
  | inl t ↦
      let e = count_yes (λ z. eqb z x) y ys t in
      let a = above_head y ys h x (let q = eqb-true y x t in omega arith) in
      omega arith
  | inr f ↦
      let e = count_no (λ z. eqb z x) y ys f in
      let a = count_ascending x ys (ascends_tail y ys h) in
      omega arith
]

pub count_weaker : {X : Type 0} (p q : X → Bool) → ((x : X) → p x ≡ true → q x ≡ true) → (xs : List X) → count_by p xs ≤ count_by q xs
count_weaker p q w [] = omega arith
count_weaker p q w (x ∷ xs) = elim (cases_Bool (p x)) [
  | inl t ↦
      let a = count_yes p x xs t in
      let b = count_yes q x xs (w x t) in
      let c = count_weaker p q w xs in
      omega arith
  | inr f ↦
      let a = count_no p x xs f in
      let b = count_by-cons q x xs in
      let c = count_weaker p q w xs in
      omega arith
]

-- ---- the same, where the tests agree on the elements

pub count_same_on : {X : Type 0} (P : X → Type 0) (p q : X → Bool) → ((x : X) → P x → p x ≡ q x) → (xs : List X) → All P xs → count_by p xs ≡ count_by q xs
count_same_on P p q e [] each = refl
count_same_on P p q e (x ∷ xs) each =
    count_by-cons p x xs ∙ ap₂ (λ a b. cond a 1 0 + b) (e x (All-head P x xs each)) (count_same_on P p q e xs (All-tail P x xs each)) ∙ sym (count_by-cons q x xs)

pub any_same_on : {X : Type 0} (P : X → Type 0) (p q : X → Bool) → ((x : X) → P x → p x ≡ q x) → (xs : List X) → All P xs → list_any p xs ≡ list_any q xs
any_same_on P p q e [] each = refl
any_same_on P p q e (x ∷ xs) each = ap₂ (λ a b. a || b) (e x (All-head P x xs each)) (any_same_on P p q e xs (All-tail P x xs each))

pub any_weaker_on : {X : Type 0} (P : X → Type 0) (p q : X → Bool) → ((x : X) → P x → p x ≡ true → q x ≡ true) → (xs : List X) → All P xs → list_any p xs ≡ true → list_any q xs ≡ true
any_weaker_on P p q w xs each h = let (x, has, t) = any_contains p xs h in contains_any q xs x has (w x (All-contains P xs x each has) t)

pub all_weaker_on : {X : Type 0} (P : X → Type 0) (p q : X → Bool) → ((x : X) → P x → p x ≡ true → q x ≡ true) → (xs : List X) → All P xs → list_all p xs ≡ true → list_all q xs ≡ true
all_weaker_on P p q w xs each h = contains_all q xs (λ x has. w x (All-contains P xs x each has) (all_contains p xs x h has))

pub all_same_on : {X : Type 0} (P : X → Type 0) (p q : X → Bool) → ((x : X) → P x → p x ≡ q x) → (xs : List X) → All P xs → list_all p xs ≡ list_all q xs
all_same_on P p q e [] each = refl
all_same_on P p q e (x ∷ xs) each = ap₂ (λ a b. a && b) (e x (All-head P x xs each)) (all_same_on P p q e xs (All-tail P x xs each))
