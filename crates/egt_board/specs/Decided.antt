-- Statements that can be told to hold or not.
use Rattle.std.proofs.Common.{◌≡◌, ℕ, zero, suc, ◌<◌, ◌≤◌, ◌⊎◌, inl, inr, refl, ap, subst, arith, List, [], ◌∷◌, Bool, true, false, IsTrue}
use Rattle.std.proofs.Math.Logic.{⊎_elim, ⊎_map}
use Rattle.std.proofs.lemmas.Bool.{cases_lt, false≢true}
use Rattle.std.specs.Coded.{Coded}
use Rattle.std.specs.List.{Any}
use base.Stored.{Gv, gnil, gnum, gcons}
use Rattle.egt_board.specs.Among.{any_here, any_there, any_cons}

-- it holds, or it does not
abbrev pub Decided : Type 0 → Type 0
Decided P = P ⊎ ¬ P

-- the answer as a test
abbrev pub tells : {P : Type 0} → Decided P → Bool
tells (inl holds) = true
tells (inr fails) = false

-- which is true exactly where it holds
pub tells_so : {P : Type 0} (d : Decided P) → IsTrue (tells d) → P
tells_so (inl holds) is = holds
tells_so (inr fails) is = absurd (false≢true is)

pub tells_where : {P : Type 0} (d : Decided P) → P → IsTrue (tells d)
tells_where (inl holds) h = refl
tells_where (inr fails) h = absurd (fails h)

-- so is what holds exactly where P does
pub decided_as : {P Q : Type 0} → (P → Q) → (Q → P) → Decided P → Decided Q
decided_as there back (inl h) = inl (there h)
decided_as there back (inr n) = inr (λ h. n (back h))

pub decided_not : {P : Type 0} → Decided P → Decided (¬ P)
decided_not (inl h) = inr (λ n. n h)
decided_not (inr n) = inl n

pub decided_either : {P Q : Type 0} → Decided P → Decided Q → Decided (P ⊎ Q)
decided_either (inl h) d = inl (inl h)
decided_either (inr n) (inl h) = inl (inr h)
decided_either (inr n) (inr m) = inr (λ e. ⊎_elim n m e)

-- the second need only be told where the first holds
pub decided_both : {P Q : Type 0} → Decided P → (P → Decided Q) → Decided (P × Q)
decided_both {P} {Q} (inl h) d = go (d h)
  where
    go : Decided Q → Decided (P × Q)
    go (inl k) = inl (h, k)
    go (inr n) = inr (λ b. n b.1)
decided_both (inr n) d = inr (λ b. n b.0)

pub decided_implies : {P Q : Type 0} → Decided P → (P → Decided Q) → Decided (P → Q)
decided_implies {P} {Q} (inl h) d = go (d h)
  where
    go : Decided Q → Decided (P → Q)
    go (inl k) = inl (λ _. k)
    go (inr n) = inr (λ f. n (f h))
decided_implies (inr n) d = inl (λ h. absurd (n h))

pub decided_test : (b : Bool) → Decided (IsTrue b)
decided_test true = inl refl
decided_test false = inr (λ e. cc)

pub decided_eq : (m n : ℕ) → Decided (m ≡ n)
decided_eq zero zero = inl refl
decided_eq zero (suc n) = inr (omega arith)
decided_eq (suc m) zero = inr (omega arith)
decided_eq (suc m) (suc n) = decided_as (λ e. omega arith) (λ e. omega arith) (decided_eq m n)

pub decided_lt : (m n : ℕ) → Decided (m < n)
decided_lt m n = ⊎_map (λ h. h) (λ le lt. omega arith) (cases_lt m n)

pub decided_le : (m n : ℕ) → Decided (m ≤ n)
decided_le m n = decided_as (λ h. omega arith) (λ h. omega arith) (decided_lt m (suc n))

-- two trees of numbers are the same
decided_tree : (a b : Gv) → Decided (a ≡ b)
decided_tree gnil gnil = inl refl
decided_tree gnil (gnum n) = inr (λ e. cc)
decided_tree gnil (gcons x y) = inr (λ e. cc)
decided_tree (gnum m) gnil = inr (λ e. cc)
decided_tree (gnum m) (gnum n) = decided_as (λ e. ap gnum e) (λ e. cc) (decided_eq m n)
decided_tree (gnum m) (gcons x y) = inr (λ e. cc)
decided_tree (gcons v w) gnil = inr (λ e. cc)
decided_tree (gcons v w) (gnum n) = inr (λ e. cc)
decided_tree (gcons v w) (gcons x y) = decided_as
    (λ (h : (v ≡ x) × (w ≡ y)). λ i. gcons (h.0 i) (h.1 i))
    (λ (e : gcons v w ≡ gcons x y). (cc, cc))
    (decided_both (decided_tree v x) (λ _. decided_tree w y))

-- so are two values of a type that has a code
pub decided_same : {A : Type 0} → Coded A → (x y : A) → Decided (x ≡ y)
decided_same c x y = decided_as (c.inj x y) (ap c.code) (decided_tree (c.code x) (c.code y))

-- each number below n
pub decided_below : (P : ℕ → Type 0) → ((k : ℕ) → Decided (P k)) → (n : ℕ) → Decided ((k : ℕ) → k < n → P k)
decided_below P each zero = inl (λ k lt. absurd (omega arith))
decided_below P each (suc n) = go (each n) (decided_below P each n)
  where
    go : Decided (P n) → Decided ((k : ℕ) → k < n → P k) → Decided ((k : ℕ) → k < suc n → P k)
    go (inr here) _ = inr (λ all. here (all n (omega arith)))
    go (inl here) (inr below) = inr (λ all. below (λ k lt. all k (omega arith)))
    go (inl here) (inl below) = inl (λ k lt. ⊎_elim (below k) (λ (ge : n ≤ k). let same : n ≡ k = omega arith in subst P same here) (cases_lt k n))

-- some number below n, or none
pub some_or_none_below : (P : ℕ → Type 0) → ((k : ℕ) → Decided (P k)) → (n : ℕ) → ((k : ℕ) × (k < n) × P k) ⊎ ((k : ℕ) → k < n → ¬ (P k))
some_or_none_below P each zero = inr (λ k lt _. omega arith)
some_or_none_below P each (suc n) = go (each n) (some_or_none_below P each n)
  where
    go : Decided (P n) → ((k : ℕ) × (k < n) × P k) ⊎ ((k : ℕ) → k < n → ¬ (P k)) → ((k : ℕ) × (k < suc n) × P k) ⊎ ((k : ℕ) → k < suc n → ¬ (P k))
    go (inl here) _ = inl (n, omega arith, here)
    go (inr here) (inl below) = inl (below.0, omega (arith, below.1), below.2)
    go (inr here) (inr below) = inr (λ k lt h. ⊎_elim (λ (l : k < n). below k l h) (λ (ge : n ≤ k). let same : k ≡ n = omega arith in here (subst P same h)) (cases_lt k n))

pub decided_some_below : (P : ℕ → Type 0) → ((k : ℕ) → Decided (P k)) → (n : ℕ) → Decided ((k : ℕ) × (k < n) × P k)
decided_some_below P each n =
    ⊎_map (λ h. h) (λ (none : (k : ℕ) → k < n → ¬ (P k)) (some : (k : ℕ) × (k < n) × P k). none some.0 some.1 some.2) (some_or_none_below P each n)

-- some element of a finite list
pub decided_among : {A : Type 0} (P : A → Type 0) → ((x : A) → Decided (P x)) → (xs : List A) → Decided (Any P xs)
decided_among P each [] = inr (λ found. omega (arith, found.2))
decided_among P each (x ∷ xs) = decided_as (λ e. ⊎_elim (any_here P x xs) (any_there P x xs) e) (any_cons P x xs) (decided_either (each x) (decided_among P each xs))
