-- The nodes of a block, by its places.
use Rattle.std.proofs.Common.{◌≡◌, ℕ, zero, suc, ◌+◌, ◌-◌, ◌*◌, ◌<◌, ◌≤◌, min, Bool, cond, List, ◌∷◌, length, map}
use Rattle.std.proofs.Common.{slice_index, get_or, drop, refl, sym, ap, ap₂, ◌∙◌, arith, filter, All}
use Rattle.std.specs.List.{range_with_len, slice_range}
use Rattle.std.proofs.lemmas.List.Elements.{All-cons, All-nil}
use Rattle.std.proofs.lemmas.List.{get_or-take, get_or-drop, length-take, length-drop}
use Rattle.egt_graph.specs.Frontier.{frontier_of, frontier_below, is_entry_of_round, entry_front, block_len}

-- tests that agree on the numbers filter alike
pub filter_range_same : (p q : ℕ → Bool) (a n : ℕ) → ((k : ℕ) → a ≤ k → k < a + n → p k ≡ q k) → filter p (range_with_len a n) ≡ filter q (range_with_len a n)
filter_range_same p q a zero h = refl
filter_range_same p q a (suc n) h =
    ap₂ (λ b xs. cond b (a ∷ xs) xs) (h a (omega arith) (omega arith)) (filter_range_same p q (a + 1) n (λ k low high. h k (omega arith) (omega arith)))

map_cond : (f : ℕ → ℕ) (b : Bool) (x : ℕ) (xs : List ℕ) → map f (cond b (x ∷ xs) xs) ≡ cond b (f x ∷ map f xs) (map f xs)
map_cond f b x xs = grind arith

-- numbers from a + b on are those from b on, a further
pub filter_range_shift : (q : ℕ → Bool) (a b n : ℕ) → map (λ k. a + k) (filter (λ k. q (a + k)) (range_with_len b n)) ≡ filter q (range_with_len (a + b) n)
filter_range_shift q a b zero = refl
filter_range_shift q a b (suc n) =
    let e : a + b + 1 ≡ a + (b + 1) = omega arith in
    map_cond (λ k. a + k) (q (a + b)) b (filter (λ k. q (a + k)) (range_with_len (b + 1) n))
    ∙ ap (λ xs. cond (q (a + b)) ((a + b) ∷ xs) xs) (filter_range_shift q a (b + 1) n ∙ ap (λ m. filter q (range_with_len m n)) (sym e))

-- the places of a block's entries, and its nodes
pub block_places_front : (entries : List ℕ) (n block end : ℕ) → end ≡ min (length entries) (block * 4096 + 4096) → block * 4096 ≤ length entries
    → map (λ k. 4096 * block + k) (frontier_of (slice_range entries (block * 4096) end) n) ≡ entry_front entries n block
block_places_front entries n block end e le =
    let long = length-take (end - block * 4096) (drop (block * 4096) entries) in
    let rest = length-drop (block * 4096) entries in
    let size : length (slice_range entries (block * 4096) end) ≡ block_len (length entries) block = omega arith in
    let at : 4096 * block + 0 ≡ 4096 * block = omega arith in
    ap (λ m. map (λ k. 4096 * block + k) (frontier_below (slice_range entries (block * 4096) end) n m)) size
    ∙ ap (map (λ k. 4096 * block + k)) (filter_range_same _ (λ k. is_entry_of_round n (slice_index entries (4096 * block + k))) 0 (block_len (length entries) block)
    (λ k low high. ap (is_entry_of_round n) (read k (omega arith))))
    ∙ filter_range_shift (λ i. is_entry_of_round n (slice_index entries i)) (4096 * block) 0 (block_len (length entries) block)
    ∙ ap (λ a. filter (λ i. is_entry_of_round n (slice_index entries i)) (range_with_len a (block_len (length entries) block))) at
  where
    read : (k : ℕ) → k < end - block * 4096 → get_or (slice_range entries (block * 4096) end) k 0 ≡ get_or entries (4096 * block + k) 0
    read k lt =
        let at : block * 4096 + k ≡ 4096 * block + k = omega arith in
        get_or-take (end - block * 4096) (drop (block * 4096) entries) k 0 lt ∙ get_or-drop (block * 4096) entries k 0 ∙ ap (λ i. get_or entries i 0) at

All_cond : (P : ℕ → Type 0) (b : Bool) (x : ℕ) (xs : List ℕ) → P x → All P xs → All P (cond b (x ∷ xs) xs)
All_cond P b x xs p h = grind (arith, All-cons)

pub All_filter_range : (P : ℕ → Type 0) (p : ℕ → Bool) (a n : ℕ) → ((k : ℕ) → a ≤ k → k < a + n → P k) → All P (filter p (range_with_len a n))
All_filter_range P p a zero h = All-nil P
All_filter_range P p a (suc n) h =
    All_cond P (p a) a (filter p (range_with_len (a + 1) n)) (h a (omega arith) (omega arith))
    (All_filter_range P p (a + 1) n (λ k low high. h k (omega arith) (omega arith)))

pub block_places_within : (entries : List ℕ) (n block end : ℕ) → end ≡ min (length entries) (block * 4096 + 4096) → block * 4096 ≤ length entries
    → All (λ k. 4096 * block + k < length entries) (frontier_of (slice_range entries (block * 4096) end) n)
block_places_within entries n block end e le =
    let long = length-take (end - block * 4096) (drop (block * 4096) entries) in
    let rest = length-drop (block * 4096) entries in
    All_filter_range (λ k. 4096 * block + k < length entries) _ 0 (length (slice_range entries (block * 4096) end)) (λ k low high. omega arith)
