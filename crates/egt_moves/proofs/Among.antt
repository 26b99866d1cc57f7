-- Statements about all elements of a finite list, or about one, that can be decided.
use Rattle.std.proofs.Common.{ℕ, zero, ◌+◌, ◌≤◌, ◌⊎◌, inl, inr, arith, List, [], ◌∷◌, Option, Some, None}
use Rattle.egt_moves.specs.Prelude.{⊎_elim, IsSomeAnd, any_here, any_there, any_cons, Any, AllByRecursion, filter_map}
use Rattle.egt_moves.specs.Prelude.{cons_option}

-- P holds of each element, or Q of some
pub each_or_some : {A : Type 0} (P Q : A → Type 0) → ((x : A) → P x ⊎ Q x) → (xs : List A) → AllByRecursion P xs ⊎ Any Q xs
each_or_some P Q choose [] = inl tt
each_or_some {A} P Q choose (x ∷ xs) = go (choose x) (each_or_some P Q choose xs)
  where
    go : P x ⊎ Q x → AllByRecursion P xs ⊎ Any Q xs → AllByRecursion P (x ∷ xs) ⊎ Any Q (x ∷ xs)
    go h k = grind (arith, any_here, any_there)

-- what holds of each element holds of one that R finds
pub found_among : {A : Type 0} (P R : A → Type 0) (xs : List A) → AllByRecursion P xs → Any R xs → (x : A) × P x × R x
found_among P R [] h found = absurd (omega (arith, found.2))
found_among P R (x ∷ xs) h found = ⊎_elim (λ (r : R x). (x, h.0, r)) (found_among P R xs h.1) (any_cons R x xs found)

-- where f gives of some element what has P, the list of what it gives has some with P
pub any_filter_map : {A B : Type 0} (f : A → Option B) (P : B → Type 0) (xs : List A) → Any (λ x. IsSomeAnd (f x) P) xs → Any P (filter_map f xs)
any_filter_map f P [] found = absurd (omega (arith, found.2))
any_filter_map {A} {B} f P (x ∷ xs) found = go (f x) (any_cons (λ y. IsSomeAnd (f y) P) x xs found) (any_filter_map f P xs)
  where
    go : (o : Option B) → IsSomeAnd o P ⊎ Any (λ y. IsSomeAnd (f y) P) xs → (Any (λ y. IsSomeAnd (f y) P) xs → Any P (filter_map f xs)) → Any P (cons_option o (filter_map f xs))
    go None (inl h) later = absurd h
    go None (inr h) later = later h
    go (Some b) (inl h) later = any_here P b (filter_map f xs) h
    go (Some b) (inr h) later = any_there P b (filter_map f xs) (later h)

-- where each element has some number, one number is enough for all
pub common : {A : Type 0} (W : A → ℕ → Type 0) → ((x : A) (m n : ℕ) → m ≤ n → W x m → W x n) → ((x : A) → (n : ℕ) × W x n) → (xs : List A) → (k : ℕ) × ((n : ℕ) → k ≤ n → AllByRecursion (λ x. W x n) xs)
common W up each [] = (zero, λ n le. tt)
common W up each (x ∷ xs) =
    let here = each x in
    let rest = common W up each xs in
    (here.0 + rest.0, λ n le. (up x here.0 n (omega arith) here.1, rest.1 n (omega arith)))
