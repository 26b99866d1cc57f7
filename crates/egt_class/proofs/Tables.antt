-- Tables that are right at each of their entries, by computed tests.
use Rattle.std.proofs.Common.{◌≡◌, ℕ, zero, suc, ◌<◌, ◌≤◌, ◌+◌, ◌-◌, ◌&&◌, Bool, true, false, eqb, ltb, List, [], ◌∷◌, ◌++◌, length, take, drop, get_or, refl, sym, ap, ◌∙◌, arith}
use Rattle.std.proofs.lemmas.Bool.{eqb-true, eq-eqb, and_parts, false≢true, ltb-true}
use Rattle.std.specs.Prelude.{slice_index, slice_range}
use Rattle.std.proofs.lemmas.List.{take_more, length-drop, get_or-drop}

-- the lists are the same
unfoldable pub same_list : List ℕ → List ℕ → Bool
same_list [] [] = true
same_list [] (y ∷ ys) = false
same_list (x ∷ xs) [] = false
same_list (x ∷ xs) (y ∷ ys) = eqb x y && same_list xs ys

pub same_list-equal : (xs ys : List ℕ) → same_list xs ys ≡ true → xs ≡ ys
unfolding same_list
same_list-equal [] [] same = refl
same_list-equal [] (y ∷ ys) same = absurd (false≢true same)
same_list-equal (x ∷ xs) [] same = absurd (false≢true same)
same_list-equal (x ∷ xs) (y ∷ ys) same =
    let both = and_parts (eqb x y) (same_list xs ys) same in
    ap (λ z. z ∷ xs) (eqb-true x y both.0) ∙ ap (λ zs. y ∷ zs) (same_list-equal xs ys both.1)

pub same_list-same : (xs ys : List ℕ) → xs ≡ ys → same_list xs ys ≡ true
unfolding same_list
same_list-same xs ys e = ap (same_list xs) (sym e) ∙ reflexive xs
  where
    reflexive : (xs : List ℕ) → same_list xs xs ≡ true
    reflexive [] = refl
    reflexive (x ∷ xs) = ap (λ b. b && same_list xs xs) (eq-eqb x x refl) ∙ reflexive xs

-- each number of the list is less
unfoldable pub all_less : List ℕ → ℕ → Bool
all_less [] n = true
all_less (x ∷ xs) n = ltb x n && all_less xs n

pub all_less-at : (xs : List ℕ) (n k : ℕ) → 0 < n → all_less xs n ≡ true → slice_index xs k < n
unfolding all_less
all_less-at [] n k some all = some
all_less-at (x ∷ xs) n zero some all = ltb-true x n (and_parts (ltb x n) (all_less xs n) all).0
all_less-at (x ∷ xs) n (suc k) some all = all_less-at xs n k some (and_parts (ltb x n) (all_less xs n) all).1

-- one more number at the end of a part of a list
pub part_none : (xs : List ℕ) (a : ℕ) → slice_range xs a a ≡ []
part_none xs a = let e : a - a ≡ 0 = omega arith in ap (λ n. take n (drop a xs)) e

pub part_more : (xs : List ℕ) (a b : ℕ) → a ≤ b → b < length xs → slice_range xs a (b + 1) ≡ slice_range xs a b ++ slice_index xs b ∷ []
part_more xs a b from b_in =
    let more : b + 1 - a ≡ b - a + 1 = omega arith in
    let at : a + (b - a) ≡ b = omega arith in
    let n = length-drop a xs in
    ap (λ n. take n (drop a xs)) more
    ∙ take_more (drop a xs) (b - a) 0 (omega arith)
    ∙ ap (λ x. take (b - a) (drop a xs) ++ x ∷ []) (get_or-drop a xs (b - a) 0 ∙ ap (λ i. get_or xs i 0) at)
