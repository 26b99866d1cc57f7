-- The nodes of a round by their entries, and blocks whose moves were taken back.
use Rattle.std.proofs.Common.{◌≡◌, ◌≢◌, ℕ, zero, suc, ◌+◌, ◌*◌, ◌/◌, ◌<◌, ◌≤◌, Bool, true, false, cond, not, ◌&&◌, ◌||◌}
use Rattle.std.proofs.Common.{eqb, ltb, List, [], ◌∷◌, length, slice_index_or, get_or, set, take, refl, sym, ap, ◌∙◌}
use Rattle.std.proofs.Common.{inl, inr, ◌⊎◌, ⊎_elim, arith, filter, count_by, All}
use Rattle.std.specs.List.{range_with_len, list_any}
use Rattle.std.proofs.lemmas.Bool.{cases_Bool, cases_eq, cases_order, eq-eqb, ne_eqb, or_cases, or_left, or_right}
use Rattle.std.proofs.lemmas.Bool.{or_from, and_from, and_parts, and_left, lt-ltb, le-ltb, both_ways, not_from_false}
use Rattle.std.proofs.lemmas.Bool.{not-true, false_from_ne_true}
use Rattle.std.proofs.lemmas.List.{get_or-set_same, get_or-set_other, take_all}
use Rattle.std.proofs.lemmas.List.Elements.{All-cons, All-nil}
use Rattle.egt_graph.specs.Graph.{Graph, IsNode, IsGame}
use Rattle.egt_graph.specs.Value.{mated_within, mates_within, mated_before, mates_before, is_lost_before, is_won_before}
use Rattle.egt_graph.specs.Frontier.{is_node, is_ranked, front, entry_front, is_entry_of_round, block_len}
use Rattle.egt_graph.specs.Columns.{outs, leaves, count_of, decided, entry_at, is_known_win, is_known_loss, waits_at}
use Rattle.egt_graph.specs.Columns.{is_winning, Amid, done_of, done_by}
use Rattle.egt_graph.specs.declared.game.Exit.{Exit}
use Rattle.egt_graph.specs.declared.game.Exit.TheVariants.{Win, Loss, Draw}
use Rattle.egt_graph.proofs.Lists.{count_yes, count_no, count_by-cons, any_same_on, count_same_on}
use Rattle.egt_graph.proofs.Values.{never_both_ever, mates_before_lt, mated_before_lt}
use Rattle.egt_graph.proofs.Holding.{decided_open, decided_shut, win_is_no_draw, loss_is_no_draw, Hold-same}
use Rattle.egt_graph.proofs.Nodes.{node_from_test, or_false, test_from_node, outs_are_nodes, with_node}
use Rattle.egt_graph.proofs.Closing.{entry_none}
use Rattle.egt_graph.proofs.Ranking.{spelled, Spells}
use Rattle.egt_graph.proofs.RunOver.{draw_of_no_round, void_of_no_round, of_round_win, of_round_loss}
use Rattle.egt_graph.proofs.BlockNodes.{filter_range_same}
use Rattle.egt_graph.proofs.Steps.{counted_at, counted_past, counted_le, counted_more}

-- ---- the entries of a round

later_of_no_round : (g : Graph) (r i : ℕ) (win loss : Bool) → entry_at g r i ≡ 1 → is_entry_of_round r (decided (entry_at g r i) win loss (r + 1)) ≡ false
later_of_no_round g r i win loss e = grind (arith, is_entry_of_round, decided_open, entry_at, eq-eqb, draw_of_no_round)

-- what the entry of a node of the round says of it
pub data Found (g : Graph) (r i : ℕ) : Type 0 where
  Wins : entry_at g r i ≡ 2 + 2 * r → mates_within g r i ≡ true → mates_before g r i ≡ false → Found g r i
  Loses : entry_at g r i ≡ 3 + 2 * r → mated_within g r i ≡ true → mated_before g r i ≡ false → Found g r i

unranked : (g : Graph) (r i : ℕ) → (mates_within g r i ≡ true → mates_before g r i ≡ false → ⊥) → (mated_within g r i ≡ true → mated_before g r i ≡ false → ⊥) → is_ranked g r i ≡ false
unranked g r i p q = grind (arith, false_from_ne_true, and_parts, is_node, mates_within, mates_before, not-true, mated_within, mated_before, or_cases)

classified : (g : Graph) → IsGame g → (r i : ℕ) → IsNode g i → (v : Exit) → Spells g r i v
    → (Found g r i × (is_ranked g r i ≡ true)) ⊎ ((is_ranked g r i ≡ false) × ((win loss : Bool) → is_entry_of_round r (decided (entry_at g r i) win loss (r + 1)) ≡ false))
classified g law r i node (Win n) s = elim (cases_eq n r) [
  | inl e ↦
      let k : (mates_within g r i ≡ true) × (mates_before g r i ≡ false) = rw e at s.known in
      inl (
        Wins (s.entry ∙ ap (λ m. 2 + 2 * m) e) k.0 k.1,
        and_from _ _ (test_from_node g i node) (or_left _ _ (and_from _ _ k.0 (not_from_false _ k.1))),
      )
  | inr ne ↦
      let le : n ≤ r = s.within in
      let lt : n < r = omega arith in
      inr (
        unranked g r i (λ a b. both_ways _ b (mates_before_lt g i n r lt s.known.0)) (λ a b. never_both_ever g law n r i node s.known.0 a),
        λ win loss. ap (is_entry_of_round r) (decided_shut (entry_at g r i) (r + 1) win loss (ap (λ x. eqb x 1) s.entry ∙ win_is_no_draw n) ∙ s.entry)
            ∙ false_from_ne_true _ (λ t. ne (of_round_win n r t)),
      )
]
classified g law r i node (Loss n) s = elim (cases_eq n r) [
  | inl e ↦
      let k : (mated_within g r i ≡ true) × (mated_before g r i ≡ false) = rw e at s.known in
      inl (
        Loses (s.entry ∙ ap (λ m. 3 + 2 * m) e) k.0 k.1,
        and_from _ _ (test_from_node g i node) (or_right (mates_within g r i && not (mates_before g r i)) _ (and_from _ _ k.0 (not_from_false _ k.1))),
      )
  | inr ne ↦
      let le : n ≤ r = s.within in
      let lt : n < r = omega arith in
      inr (
        unranked g r i (λ a b. never_both_ever g law r n i node a s.known.0) (λ a b. both_ways _ b (mated_before_lt g i n r lt s.known.0)),
        λ win loss. ap (is_entry_of_round r) (decided_shut (entry_at g r i) (r + 1) win loss (ap (λ x. eqb x 1) s.entry ∙ loss_is_no_draw n) ∙ s.entry)
            ∙ false_from_ne_true _ (λ t. ne (of_round_loss n r t)),
      )
]
classified g law r i node Draw s =
    inr (unranked g r i (λ a b. both_ways _ s.known.0 a) (λ a b. both_ways _ s.known.1 a), λ win loss. later_of_no_round g r i win loss s.entry)

pub found : (g : Graph) → IsGame g → (r i : ℕ) → is_ranked g r i ≡ true → Found g r i
found g law r i t =
    let node = node_from_test g i (and_parts (is_node g i) _ t).0 in
    let s = spelled g i node r in
    ⊎_elim (λ a. a.0) (λ b. absurd (both_ways _ b.0 t)) (classified g law r i node s.0 s.1)

-- such an entry stays while the round goes on
pub found_entry : (g : Graph) (r i : ℕ) (win loss : Bool) (n : ℕ) → Found g r i → decided (entry_at g r i) win loss n ≡ entry_at g r i
found_entry g r i win loss n (Wins e a b) = decided_shut (entry_at g r i) n win loss (ap (λ x. eqb x 1) e ∙ win_is_no_draw r)
found_entry g r i win loss n (Loses e a b) = decided_shut (entry_at g r i) n win loss (ap (λ x. eqb x 1) e ∙ loss_is_no_draw r)

-- the entries tell the nodes of the round
pub ranked_by_entry : (g : Graph) → IsGame g → (r i : ℕ) (win loss : Bool) → is_entry_of_round r (decided (entry_at g r i) win loss (r + 1)) ≡ is_ranked g r i
ranked_by_entry g law r i win loss = elim (cases_Bool (is_node g i)) [
  | inl t ↦
      let node = node_from_test g i t in
      let s = spelled g i node r in
      ⊎_elim
      (λ a. ap (is_entry_of_round r) (found_entry g r i win loss (r + 1) a.0) ∙ entry_of_found a.0 ∙ sym a.1)
      (λ b. b.1 win loss ∙ sym b.0)
      (classified g law r i node s.0 s.1)
  | inr f ↦
      let e = entry_none g r i f in
      ap (is_entry_of_round r) (decided_shut (entry_at g r i) (r + 1) win loss (ne_eqb (entry_at g r i) 1 (λ q. absurd (omega arith))) ∙ e) ∙ void_of_no_round r ∙ sym (and_left (is_node g i) _ f)
]
  where
    entry_of_found : Found g r i → is_entry_of_round r (entry_at g r i) ≡ true
    entry_of_found h0 = grind (arith, is_entry_of_round, or_left, eq-eqb, or_right, eqb)

pub front_by_entries : (g : Graph) → IsGame g → (r block : ℕ) (done : ℕ → Bool) (due won : ℕ) (es ws : List ℕ) → Amid g r done due won es ws → length es ≡ g.size
    → entry_front es r block ≡ front g r block
front_by_entries g law r block done due won es ws h long = grind (arith, is_entry_of_round, range_with_len, block_len, filter_range_same, is_ranked, ranked_by_entry)

-- ---- what stands in a block

count_filter_no : (p : ℕ → Bool) (x : ℕ) (xs : List ℕ) → p x ≡ false → count_of x (filter p xs) ≡ 0
count_filter_no p x [] h = refl
count_filter_no p x (y ∷ ys) h = elim (cases_Bool (p y)) [
  | inl t ↦ rw t (count_no (λ z. eqb z x) y (filter p ys) (ne_eqb y x (λ e. both_ways (p x) h (ap p (sym e) ∙ t))) ∙ count_filter_no p x ys h)
  | inr f ↦ rw f (count_filter_no p x ys h)
]

count_filter_yes : (p : ℕ → Bool) (x : ℕ) (xs : List ℕ) → p x ≡ true → count_of x (filter p xs) ≡ count_of x xs
count_filter_yes p x [] h = refl
count_filter_yes p x (y ∷ ys) h = elim (cases_Bool (p y)) [
  | inl t ↦ rw t (count_by-cons (λ z. eqb z x) y (filter p ys) ∙ ap (λ n. cond (eqb y x) 1 0 + n) (count_filter_yes p x ys h) ∙ sym (count_by-cons (λ z. eqb z x) y ys))
  | inr f ↦ rw f (count_filter_yes p x ys h ∙ sym (count_no (λ z. eqb z x) y ys (ne_eqb y x (λ e. both_ways (p x) (ap p (sym e) ∙ f) h))))
]

count_range_out : (x a n : ℕ) → (x < a) ⊎ (a + n ≤ x) → count_of x (range_with_len a n) ≡ 0
count_range_out x a zero h = refl
count_range_out x a (suc n) (inl lt) = count_no (λ z. eqb z x) a (range_with_len (a + 1) n) (ne_eqb a x (λ e. absurd (omega arith))) ∙ count_range_out x (a + 1) n (inl (omega arith))
count_range_out x a (suc n) (inr le) = count_no (λ z. eqb z x) a (range_with_len (a + 1) n) (ne_eqb a x (λ e. absurd (omega arith))) ∙ count_range_out x (a + 1) n (inr (omega arith))

count_range_in : (x a n : ℕ) → a ≤ x → x < a + n → count_of x (range_with_len a n) ≡ 1
count_range_in x a zero low high = absurd (omega arith)
count_range_in x a (suc n) low high = elim (cases_eq a x) [
  | inl e ↦
      let c = count_yes (λ z. eqb z x) a (range_with_len (a + 1) n) (eq-eqb a x e) in
      let z = count_range_out x (a + 1) n (inl (omega arith)) in
      omega arith
  | inr ne ↦ count_no (λ z. eqb z x) a (range_with_len (a + 1) n) (ne_eqb a x ne) ∙ count_range_in x (a + 1) n (omega arith) (omega arith)
]

-- a node of the round stands in the front of its own block, once, and in no other
pub front_has : (g : Graph) (r x : ℕ) → is_ranked g r x ≡ true → count_of x (front g r (x / 4096)) ≡ 1
front_has g r x t =
    let node = node_from_test g x (and_parts (is_node g x) _ t).0 in
    let in_range = node.in_range in
    count_filter_yes (is_ranked g r) x (range_with_len (4096 * (x / 4096)) (block_len g.size (x / 4096))) t
    ∙ count_range_in x (4096 * (x / 4096)) (block_len g.size (x / 4096)) (omega arith) (omega arith)

pub front_lacks : (g : Graph) (r block x : ℕ) → x / 4096 ≢ block → count_of x (front g r block) ≡ 0
front_lacks g r block x ne = elim (cases_Bool (is_ranked g r x)) [
  | inl t ↦ count_filter_yes (is_ranked g r) x (range_with_len (4096 * block) (block_len g.size block)) t ∙ count_range_out x (4096 * block) (block_len g.size block) (outside x block (block_len g.size block) ne (omega arith))
  | inr f ↦ count_filter_no (is_ranked g r) x (range_with_len (4096 * block) (block_len g.size block)) f
]
  where
    outside : (x block len : ℕ) → x / 4096 ≢ block → len ≤ 4096 → (x < 4096 * block) ⊎ (4096 * block + len ≤ x)
    outside x block len ne le = elim (cases_order (x / 4096) block) [
      | inl e ↦ absurd (ne e)
      | inr o ↦ elim o [ inl lt ↦ inl (omega arith) | inr gt ↦ inr (omega arith) ]
    ]

-- what stands at a place of a front
pub front_at : (g : Graph) (r block k : ℕ) (nodes : List ℕ) → nodes ≡ front g r block → k < length nodes
    → (is_ranked g r (get_or nodes k 0) ≡ true) × (get_or nodes k 0 / 4096 ≡ block) × (count_of (get_or nodes k 0) (take k nodes) ≡ 0)
front_at g r block k nodes is lt = (ranked, in_block, first)
  where
    x : ℕ
    x = get_or nodes k 0

    counted : count_of x (take (k + 1) nodes) ≡ count_of x (take k nodes) + 1
    counted = counted_at nodes k lt

    part : count_of x (take (k + 1) nodes) ≤ count_of x nodes
    part = counted_le x nodes (k + 1)

    some : 0 < count_of x nodes
    some = omega (arith, counted, part)

    ranked : is_ranked g r x ≡ true
    ranked = elim (cases_Bool (is_ranked g r x)) [
      | inl t ↦ t
      | inr f ↦ let z = ap (count_of x) is ∙ count_filter_no (is_ranked g r) x (range_with_len (4096 * block) (block_len g.size block)) f in absurd (omega (arith, z, some))
    ]

    in_block : x / 4096 ≡ block
    in_block = elim (cases_eq (x / 4096) block) [
      | inl e ↦ e
      | inr ne ↦ let z = ap (count_of x) is ∙ front_lacks g r block x ne in absurd (omega (arith, z, some))
    ]

    once : count_of x nodes ≡ 1
    once = ap (count_of x) is ∙ ap (λ b. count_of x (front g r b)) (sym in_block) ∙ front_has g r x ranked

    first : count_of x (take k nodes) ≡ 0
    first = omega (arith, counted, part, once)

-- ---- which nodes are done

-- the columns depend on what is done at the nodes of the round alone
pub Amid_redone : (g : Graph) → IsGame g → (r : ℕ) (done done' : ℕ → Bool) (due won : ℕ) (es ws : List ℕ)
    → ((x : ℕ) → is_ranked g r x ≡ true → done x ≡ done' x) → Amid g r done due won es ws → Amid g r done' due won es ws
Amid_redone g law r done done' due won es ws same h =
    Hold-same (is_winning g r done' due) (waits_at g r done' won) h
    (λ i. ap (λ b. b || list_any (is_lost_before due) (leaves g i)) (any_same_on (IsNode g) _ _ losses (outs g i) (outs_are_nodes g law i)))
    (λ i. ap (λ n. n + count_by (λ e. not (is_won_before won e)) (leaves g i)) (count_same_on (IsNode g) _ _ (λ x node. ap not (wins x node)) (outs g i) (outs_are_nodes g law i)))
  where
    known : (b w t t' : Bool) → (w ≡ true → b ≡ false → t ≡ t') → (b || (w && t)) ≡ (b || (w && t'))
    known true w t t' e = refl
    known false true t t' e = e refl refl
    known false false t t' e = refl

    wins : (x : ℕ) → IsNode g x → is_known_win g r done x ≡ is_known_win g r done' x
    wins x node = known (mates_before g r x) (mates_within g r x) (done x) (done' x)
        (λ w b. same x (and_from _ _ (test_from_node g x node) (or_left _ _ (and_from _ _ w (not_from_false _ b)))))

    losses : (x : ℕ) → IsNode g x → is_known_loss g r done x ≡ is_known_loss g r done' x
    losses x node = known (mated_before g r x) (mated_within g r x) (done x) (done' x)
        (λ w b. same x (and_from _ _ (test_from_node g x node) (or_right (mates_within g r x && not (mates_before g r x)) _ (and_from _ _ w (not_from_false _ b)))))

pub done_by_none : (posted : List Bool) (nodes : List ℕ) (x : ℕ) → done_of posted x ≡ done_by posted nodes 0 x
done_by_none posted nodes x = or_false (done_of posted x)

or_more : (b c d c' : Bool) → c' ≡ (c || d) → ((b || c) || d) ≡ (b || c')
or_more true c d c' e = refl
or_more false c d c' e = sym e

pub done_by_more : (posted : List Bool) (nodes : List ℕ) (k : ℕ) → k < length nodes → (x : ℕ)
    → with_node (done_by posted nodes k) (get_or nodes k 0) x ≡ done_by posted nodes (k + 1) x
done_by_more posted nodes k lt x =
    or_more (done_of posted x) (ltb 0 (count_of x (take k nodes))) (eqb (get_or nodes k 0) x) (ltb 0 (count_of x (take (k + 1) nodes))) one
  where
    one : ltb 0 (count_of x (take (k + 1) nodes)) ≡ (ltb 0 (count_of x (take k nodes)) || eqb (get_or nodes k 0) x)
    one = elim (cases_eq (get_or nodes k 0) x) [
      | inl e ↦
          let c = counted_more x nodes k lt ∙ ap (λ b. count_of x (take k nodes) + cond b 1 0) (eq-eqb (get_or nodes k 0) x e) in
          lt-ltb 0 _ (omega arith) ∙ sym (or_right (ltb 0 (count_of x (take k nodes))) _ (eq-eqb (get_or nodes k 0) x e))
      | inr ne ↦
          ap (ltb 0) (counted_past x nodes k lt ne) ∙ or_false (ltb 0 (count_of x (take k nodes))) ∙ ap (λ b. ltb 0 (count_of x (take k nodes)) || b) (sym (ne_eqb (get_or nodes k 0) x ne))
    ]

pub done_by_all : (g : Graph) (r block : ℕ) (posted : List Bool) (nodes : List ℕ) → nodes ≡ front g r block → block < length posted → slice_index_or posted block false ≡ false
    → (x : ℕ) → is_ranked g r x ≡ true → done_by posted nodes (length nodes) x ≡ done_of (set posted block true) x
done_by_all g r block posted nodes is in_range fresh x ranked = elim (cases_eq (x / 4096) block) [
  | inl e ↦
      let all = take_all (length nodes) nodes (omega arith) in
      let one = ap (count_of x) (all ∙ is) ∙ ap (λ b. count_of x (front g r b)) (sym e) ∙ front_has g r x ranked in
      or_right (done_of posted x) _ (lt-ltb 0 (count_of x (take (length nodes) nodes)) (omega arith))
      ∙ sym (ap (λ b. slice_index_or (set posted block true) b false) e ∙ get_or-set_same posted block true false in_range)
  | inr ne ↦
      let all = take_all (length nodes) nodes (omega arith) in
      let z = ap (count_of x) (all ∙ is) ∙ front_lacks g r block x ne in
      ap (λ b. done_of posted x || b) (le-ltb 0 (count_of x (take (length nodes) nodes)) (omega arith)) ∙ sym (or_false (done_of posted x))
      ∙ sym (get_or-set_other posted block (x / 4096) true false ne)
]

-- a node whose block was not posted and that comes now is not done yet
pub not_done : (g : Graph) (r block k : ℕ) (posted : List Bool) (nodes : List ℕ) → nodes ≡ front g r block → k < length nodes → slice_index_or posted block false ≡ false
    → done_by posted nodes k (get_or nodes k 0) ≡ false
not_done g r block k posted nodes is lt fresh =
    let f = front_at g r block k nodes is lt in
    or_from _ _ (ap (λ b. slice_index_or posted b false) f.1 ∙ fresh) (le-ltb 0 (count_of (get_or nodes k 0) (take k nodes)) (let z = f.2 in omega arith))

-- a front lists nodes
pub front_nodes : (g : Graph) (r block : ℕ) → All (IsNode g) (front g r block)
front_nodes g r block = go (range_with_len (4096 * block) (block_len g.size block))
  where
    more : (b : Bool) (x : ℕ) (xs : List ℕ) → is_ranked g r x ≡ b → All (IsNode g) xs → All (IsNode g) (cond b (x ∷ xs) xs)
    more true x xs e h = All-cons (IsNode g) x xs (node_from_test g x (and_parts (is_node g x) _ e).0) h
    more false x xs e h = h

    go : (xs : List ℕ) → All (IsNode g) (filter (is_ranked g r) xs)
    go [] = All-nil (IsNode g)
    go (x ∷ xs) = more (is_ranked g r x) x (filter (is_ranked g r) xs) refl (go xs)
