-- A filter of consecutive numbers.
use Rattle.std.proofs.Common.{◌≡◌, ℕ, zero, suc, ◌+◌, ◌<◌, ◌≤◌, Bool, true, false, cond, List, [], ◌∷◌, ◌++◌, length}
use Rattle.std.proofs.Common.{refl, ap, ◌∙◌, arith, filter, slice_index, IsFalse}
use Rattle.egt_graph.specs.Prelude.{frontier_below, is_entry_of_round, range_with_len, append-nil, filter-append}
use Rattle.egt_graph.specs.Prelude.{length-filter, count_by-le-length, length-range_with_len}

pub range_with_len-append : (a n m : ℕ) → range_with_len a (n + m) ≡ range_with_len a n ++ range_with_len (a + n) m
range_with_len-append a zero m = let e : a + 0 ≡ a = omega arith in let f : 0 + m ≡ m = omega arith in rw (f, e) refl
range_with_len-append a (suc n) m =
    let e : suc n + m ≡ suc (n + m) = omega arith in
    let f : a + suc n ≡ a + 1 + n = omega arith in
    rw (e, f) (ap (λ xs. a ∷ xs) (range_with_len-append (a + 1) n m))

-- one more number
pub filter_range_more : (p : ℕ → Bool) (a n : ℕ) → filter p (range_with_len a (n + 1)) ≡ filter p (range_with_len a n) ++ cond (p (a + n)) ((a + n) ∷ []) []
filter_range_more p a n = ap (filter p) (range_with_len-append a n 1) ∙ filter-append p (range_with_len a n) (range_with_len (a + n) 1)

-- numbers that all fail
pub filter_range_none : (p : ℕ → Bool) (a n : ℕ) → ((k : ℕ) → a ≤ k → k < a + n → p k ≡ false) → filter p (range_with_len a n) ≡ []
filter_range_none p a zero h = refl
filter_range_none p a (suc n) h =
    rw (h a (omega arith) (omega arith)) (filter_range_none p (a + 1) n (λ k low high. h k (omega arith) (omega arith)))

pub filter_range_quiet : (p : ℕ → Bool) (n m : ℕ) → ((k : ℕ) → n ≤ k → k < n + m → p k ≡ false) → filter p (range_with_len 0 (n + m)) ≡ filter p (range_with_len 0 n)
filter_range_quiet p n m h = grind (arith, range_with_len-append, filter-append, range_with_len, filter_range_none, append-nil)

pub length-filter_range : (p : ℕ → Bool) (a n : ℕ) → length (filter p (range_with_len a n)) ≤ n
length-filter_range p a n = grind (arith, length-filter, count_by-le-length, length-range_with_len)

pub length_frontier_below : (entries : List ℕ) (n m : ℕ) → length (frontier_below entries n m) ≤ m
length_frontier_below entries n m = length-filter_range (λ k. is_entry_of_round n (slice_index entries k)) 0 m

-- one more number from 0 on, which passes or not
pub filter_below_yes : (p : ℕ → Bool) (n : ℕ) → p n ≡ true → filter p (range_with_len 0 (n + 1)) ≡ filter p (range_with_len 0 n) ++ n ∷ []
filter_below_yes p n h = grind (arith, filter_range_more)

pub filter_below_no : (p : ℕ → Bool) (n : ℕ) → p n ≡ false → filter p (range_with_len 0 (n + 1)) ≡ filter p (range_with_len 0 n)
filter_below_no p n h = grind (arith, filter_range_more, append-nil, range_with_len)

-- a load without an entry of the round
pub frontier_quiet : (entries : List ℕ) (n m : ℕ) → ((k : ℕ) → m ≤ k → k < m + 16 → IsFalse (is_entry_of_round n (slice_index entries k))) → frontier_below entries n (m + 16) ≡ frontier_below entries n m
frontier_quiet entries n m h = filter_range_quiet (λ k. is_entry_of_round n (slice_index entries k)) m 16 h
