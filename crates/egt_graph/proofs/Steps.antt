-- One node more, in the loops over columns.
use Rattle.std.proofs.Common.{◌≡◌, ◌≢◌, ℕ, ◌+◌, ◌-◌, ◌<◌, ◌≤◌, true, false, cond, ◌&&◌, eqb, ltb, List, length, slice_index, get_or, set, take, refl, sym, ap, ap₂, ◌∙◌, inl, inr, arith}
use Rattle.std.proofs.lemmas.Bool.{cases_eq, eq-eqb, ne_eqb, lt-ltb, and_right, true≢false}
use Rattle.std.proofs.lemmas.List.{get_or-set_same, get_or-set_other}
use Rattle.std.proofs.lemmas.List.Sums.{sum_by_more, sum_by-take-le}
use Rattle.egt_graph.specs.Columns.{count_of, decided, Marks, TakesBack}
use Rattle.egt_graph.proofs.Holding.{decided_take, decided_none}

pub counted_more : (i : ℕ) (xs : List ℕ) (k : ℕ) → k < length xs → count_of i (take (k + 1) xs) ≡ count_of i (take k xs) + cond (eqb (get_or xs k 0) i) 1 0
counted_more i xs k h = sum_by_more (λ y. cond (eqb y i) 1 0) xs k 0 h

pub counted_at : (xs : List ℕ) (k : ℕ) → k < length xs → count_of (get_or xs k 0) (take (k + 1) xs) ≡ count_of (get_or xs k 0) (take k xs) + 1
counted_at xs k h = counted_more (get_or xs k 0) xs k h ∙ ap (λ b. count_of (get_or xs k 0) (take k xs) + cond b 1 0) (eq-eqb (get_or xs k 0) (get_or xs k 0) refl)

pub counted_past : (i : ℕ) (xs : List ℕ) (k : ℕ) → k < length xs → get_or xs k 0 ≢ i → count_of i (take (k + 1) xs) ≡ count_of i (take k xs)
counted_past i xs k h ne =
    let e = counted_more i xs k h ∙ ap (λ b. count_of i (take k xs) + cond b 1 0) (ne_eqb (get_or xs k 0) i ne) in omega arith

pub counted_le : (i : ℕ) (xs : List ℕ) (k : ℕ) → count_of i (take k xs) ≤ count_of i xs
counted_le i xs k = sum_by-take-le (λ y. cond (eqb y i) 1 0) xs k

pub Marks_none : (es : List ℕ) (xs : List ℕ) (n : ℕ) → Marks es (take 0 xs) n es
Marks_none es xs n i = decided_none (slice_index es i) n

pub TakesBack_more : (es0 ws0 es ws xs : List ℕ) (n k : ℕ) → TakesBack es0 ws0 (take k xs) n es ws → k < length xs
    → get_or xs k 0 < length es → get_or xs k 0 < length ws → 0 < get_or ws (get_or xs k 0) 0
    → TakesBack es0 ws0 (take (k + 1) xs) n
    (set es (get_or xs k 0) (decided (get_or es (get_or xs k 0) 0) false (eqb (get_or ws (get_or xs k 0) 0 - 1) 0) n))
    (set ws (get_or xs k 0) (get_or ws (get_or xs k 0) 0 - 1))
TakesBack_more es0 ws0 es ws xs n k h in_list in_es in_ws some = record { entry = entry; waiting = waiting }
  where
    at : get_or (set ws (get_or xs k 0) (get_or ws (get_or xs k 0) 0 - 1)) (get_or xs k 0) 0 ≡ get_or ws (get_or xs k 0) 0 - 1
    at = get_or-set_same ws (get_or xs k 0) _ 0 in_ws

    past : (m : ℕ) → get_or xs k 0 ≢ m → get_or (set ws (get_or xs k 0) (get_or ws (get_or xs k 0) 0 - 1)) m 0 ≡ get_or ws m 0
    past m ne = get_or-set_other ws (get_or xs k 0) m _ 0 (λ e. ne (sym e))

    waiting : (m : ℕ) → slice_index (set ws (get_or xs k 0) (get_or ws (get_or xs k 0) 0 - 1)) m + count_of m (take (k + 1) xs) ≡ slice_index ws0 m
    waiting m = elim (cases_eq (get_or xs k 0) m) [
      | inl e ↦ rw (← e) (let c = counted_at xs k in_list in let a = at in let w = h.waiting (get_or xs k 0) in omega arith)
      | inr ne ↦ let c = counted_past m xs k in_list ne in let a = past m ne in let w = h.waiting m in omega arith
    ]

    entry : (m : ℕ) → slice_index (set es (get_or xs k 0) (decided (get_or es (get_or xs k 0) 0) false (eqb (get_or ws (get_or xs k 0) 0 - 1) 0) n)) m
        ≡ decided (slice_index es0 m) false (ltb 0 (count_of m (take (k + 1) xs)) && eqb (slice_index (set ws (get_or xs k 0) (get_or ws (get_or xs k 0) 0 - 1)) m) 0) n
    entry m = elim (cases_eq (get_or xs k 0) m) [
      | inl e ↦ rw (← e) (
          let c = counted_at xs k in_list in
          get_or-set_same es (get_or xs k 0) _ 0 in_es
          ∙ ap (λ b. decided b false (eqb (get_or ws (get_or xs k 0) 0 - 1) 0) n) (h.entry (get_or xs k 0))
          ∙ decided_take (get_or es0 (get_or xs k 0) 0) n false true (ltb 0 (count_of (get_or xs k 0) (take k xs)) && eqb (get_or ws (get_or xs k 0) 0) 0)
          (eqb (get_or ws (get_or xs k 0) 0 - 1) 0) (eqb (get_or ws (get_or xs k 0) 0 - 1) 0)
          (λ _. and_right (ltb 0 (count_of (get_or xs k 0) (take k xs))) (eqb (get_or ws (get_or xs k 0) 0) 0) (ne_eqb (get_or ws (get_or xs k 0) 0) 0 (λ q. absurd (omega arith))))
          (λ _. refl) (λ f. absurd (true≢false f))
          ∙ ap₂ (λ b w. decided (get_or es0 (get_or xs k 0) 0) false (b && eqb w 0) n)
          (sym (lt-ltb 0 (count_of (get_or xs k 0) (take (k + 1) xs)) (omega arith))) (sym at))
      | inr ne ↦
          get_or-set_other es (get_or xs k 0) m _ 0 (λ e. ne (sym e)) ∙ h.entry m
          ∙ ap₂ (λ c w. decided (get_or es0 m 0) false (ltb 0 c && eqb w 0) n) (sym (counted_past m xs k in_list ne)) (sym (past m ne))
    ]

-- a node that is still to come waits for a move
pub still_waits : (ws0 ws xs : List ℕ) (k : ℕ) → ((i : ℕ) → slice_index ws i + count_of i (take k xs) ≡ slice_index ws0 i)
    → ((i : ℕ) → count_of i xs ≤ slice_index ws0 i) → k < length xs → 0 < get_or ws (get_or xs k 0) 0
still_waits ws0 ws xs k h enough in_list =
    let c = counted_at xs k in_list in
    let le = counted_le (get_or xs k 0) xs (k + 1) in
    let e = enough (get_or xs k 0) in
    let w = h (get_or xs k 0) in
    omega arith
