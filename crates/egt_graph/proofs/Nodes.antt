-- The moves of a game, counted, and what one node changes whose moves are taken back.
use Rattle.std.proofs.Common.{◌≡◌, ◌≢◌, ℕ, ◌+◌, ◌<◌, ◌≤◌, Bool, true, false, cond, not, ◌&&◌, ◌||◌, eqb, ltb, List, [], refl, sym, ap, ap₂, ◌∙◌, inl, inr, ⊎_elim, arith, All, count_by}
use Rattle.std.specs.List.{list_any}
use Rattle.std.proofs.lemmas.Bool.{cases_Bool, lt-ltb, ltb-true, eqb-true, eq-eqb, ne_eqb, and_parts, and_from, and_left, not-true, not_from_false, or_cases, or_right, cases_eq, false_from_ne_true, both_ways}
use Rattle.std.proofs.lemmas.List.Elements.{All-contains, All-nil}
use Rattle.egt_graph.specs.Graph.{Graph, IsNode, IsGame}
use Rattle.egt_graph.specs.Value.{mated_within, mates_within, mated_before, mates_before, is_lost_before, is_won_before}
use Rattle.egt_graph.specs.Frontier.{is_node}
use Rattle.egt_graph.specs.Columns.{outs, ins, leaves, has_moves, count_of, is_known_win, is_known_loss, waits_at, is_winning, Amid, Marks, TakesBack}
use Rattle.egt_graph.proofs.Lists.{counted_some, counted_contains, contains_counted, count_ascending, count_split, count_same, count_weaker, any_same, any_or, some_counts}
use Rattle.egt_graph.proofs.Values.{mates_before_within, never_both}
use Rattle.egt_graph.proofs.Holding.{Hold-mark, Hold-take, Hold-same}

pub node_from_test : (g : Graph) (i : ℕ) → is_node g i ≡ true → IsNode g i
node_from_test g i h = let t = and_parts (ltb i g.size) (not (g.void i)) h in record { in_range = ltb-true i g.size t.0; not_void = not-true (g.void i) t.1 }

pub test_from_node : (g : Graph) (i : ℕ) → IsNode g i → is_node g i ≡ true
test_from_node g i node = and_from _ _ (lt-ltb i g.size node.in_range) (not_from_false (g.void i) node.not_void)

pub outs_at : (g : Graph) (i : ℕ) → is_node g i ≡ true → outs g i ≡ g.out i
outs_at g i h = ap (λ b. cond b (g.out i) []) h

pub ins_at : (g : Graph) (i : ℕ) → is_node g i ≡ true → ins g i ≡ g.into i
ins_at g i h = ap (λ b. cond b (g.into i) []) h

pub leaves_at : (g : Graph) (i : ℕ) → is_node g i ≡ true → leaves g i ≡ g.exits i
leaves_at g i h = ap (λ b. cond b (g.exits i) []) h

pub outs_none : (g : Graph) (i : ℕ) → is_node g i ≡ false → outs g i ≡ []
outs_none g i h = ap (λ b. cond b (g.out i) []) h

pub ins_none : (g : Graph) (i : ℕ) → is_node g i ≡ false → ins g i ≡ []
ins_none g i h = ap (λ b. cond b (g.into i) []) h

pub leaves_none : (g : Graph) (i : ℕ) → is_node g i ≡ false → leaves g i ≡ []
leaves_none g i h = ap (λ b. cond b (g.exits i) []) h

-- what lists of nodes do not hold
no_node_counted : (g : Graph) (x : ℕ) (xs : List ℕ) → is_node g x ≡ false → All (IsNode g) xs → count_of x xs ≡ 0
no_node_counted g x xs h each = elim (cases_eq (count_of x xs) 0) [
  | inl e ↦ e
  | inr ne ↦ absurd (both_ways (is_node g x) h (test_from_node g x (All-contains (IsNode g) xs x each (counted_contains x xs (omega arith)))))
]

pub outs_are_nodes : (g : Graph) → IsGame g → (i : ℕ) → All (IsNode g) (outs g i)
outs_are_nodes g law i = elim (cases_Bool (is_node g i)) [
  | inl t ↦ rw (outs_at g i t) (law.out_nodes i (node_from_test g i t))
  | inr f ↦ rw (outs_none g i f) (All-nil (IsNode g))
]

pub ins_are_nodes : (g : Graph) → IsGame g → (j : ℕ) → All (IsNode g) (ins g j)
ins_are_nodes g law j = elim (cases_Bool (is_node g j)) [
  | inl t ↦ rw (ins_at g j t) (law.into_nodes j (node_from_test g j t))
  | inr f ↦ rw (ins_none g j f) (All-nil (IsNode g))
]

counts_agree : (a b : ℕ) → a ≤ 1 → b ≤ 1 → (0 < a → 0 < b) → (0 < b → 0 < a) → a ≡ b
counts_agree a b p q r s = grind arith

-- i stands among the moves into j as often as j among the moves out of i
pub moves_match : (g : Graph) → IsGame g → (i j : ℕ) → count_of i (ins g j) ≡ count_of j (outs g i)
moves_match g law i j = elim (cases_Bool (is_node g i)) [
  | inl t ↦ elim (cases_Bool (is_node g j)) [
    | inl u ↦
        let a = node_from_test g i t in
        let b = node_from_test g j u in
        rw (ins_at g j u, outs_at g i t)
        (counts_agree _ _ (count_ascending i (g.into j) (law.into_ascends j b)) (count_ascending j (g.out i) (law.out_ascends i a))
        (λ h. let c = law.forth i j a b (counted_contains i (g.into j) h) in contains_counted j (g.out i) c.0 c.1 c.2)
        (λ h. let c = law.back i j a b (counted_contains j (g.out i) h) in contains_counted i (g.into j) c.0 c.1 c.2))
    | inr n ↦ rw (ins_none g j n) (sym (no_node_counted g j (outs g i) n (outs_are_nodes g law i)))
  ]
  | inr n ↦ rw (outs_none g i n) (no_node_counted g i (ins g j) n (ins_are_nodes g law j))
]

-- a node that a move leads from has moves
pub moved_has_moves : (g : Graph) (i j : ℕ) → 0 < count_of j (outs g i) → has_moves g i ≡ true
moved_has_moves g i j h = not_from_false _ (and_left _ _ (counted_some (λ x. eqb x j) (outs g i) h))

-- ---- one more node done

abbrev pub with_node : (ℕ → Bool) → ℕ → ℕ → Bool
with_node done j x = done x || eqb j x

other : (done : ℕ → Bool) (j x : ℕ) → j ≢ x → with_node done j x ≡ done x
other done j x ne = grind (arith, cases_Bool, ne_eqb)

itself : (done : ℕ → Bool) (j : ℕ) → with_node done j j ≡ true
itself done j = or_right (done j) (eqb j j) (eq-eqb j j refl)

-- known b w t: what is known of a node, from before, and from this round where it is done
known_off : (b w t t' : Bool) → w ≡ false → (b || (w && t)) ≡ (b || (w && t'))
known_off b w t t' f = rw f refl

known_now : (b w t : Bool) → w ≡ true → t ≡ true → (b || (w && t)) ≡ true
known_now b w t p q = or_right b (w && t) (and_from w t p q)

known_same : (b w t t' : Bool) → t ≡ t' → (b || (w && t)) ≡ (b || (w && t'))
known_same b w t t' e = ap (λ s. b || (w && s)) e

-- not known yet
known_not : (b w t : Bool) → b ≡ false → t ≡ false → (b || (w && t)) ≡ false
known_not b w t p q = grind arith

pub or_false : (b : Bool) → b ≡ (b || false)
or_false b = grind arith

or_turn : (a b c : Bool) → ((a || b) || c) ≡ ((a || c) || b)
or_turn a b c = grind arith

-- a lost node of the round: the nodes that lead to it win, and none of them has run out of moves to wait for
pub lost_node_marks : (g : Graph) (law : IsGame g) (r : ℕ) (done : ℕ → Bool) (due won j : ℕ) (es ws es' : List ℕ)
    → IsNode g j → mated_within g r j ≡ true
    → Amid g r done due won es ws → Marks es (ins g j) (r + 1) es' → Amid g r (with_node done j) due won es' ws
lost_node_marks g law r done due won j es ws es' node lost h marks =
    Hold-same (is_winning g r (with_node done j) due) (waits_at g r (with_node done j) won)
    (Hold-mark (is_winning g r (with_node done j) due) (ins g j) es' h marks found waiting)
    (λ i. refl) (λ i. ap (λ n. n + count_by (λ e. not (is_won_before won e)) (leaves g i)) (count_same _ _ (λ x. ap not (unchanged x)) (outs g i)))
  where
    no_win : mates_within g r j ≡ false
    no_win = false_from_ne_true _ (λ w. never_both g law r j node w lost)

    unchanged : (x : ℕ) → is_known_win g r done x ≡ is_known_win g r (with_node done j) x
    unchanged x = elim (cases_eq j x) [
      | inl e ↦ known_off (mates_before g r x) (mates_within g r x) (done x) (with_node done j x) (ap (mates_within g r) (sym e) ∙ no_win)
      | inr ne ↦ known_same (mates_before g r x) (mates_within g r x) (done x) (with_node done j x) (sym (other done j x ne))
    ]

    known : (x : ℕ) → is_known_loss g r (with_node done j) x ≡ (is_known_loss g r done x || eqb x j)
    known x = elim (cases_eq j x) [
      | inl e ↦
          known_now (mated_before g r x) (mated_within g r x) (with_node done j x) (ap (mated_within g r) (sym e) ∙ lost) (ap (with_node done j) (sym e) ∙ itself done j)
          ∙ sym (or_right (is_known_loss g r done x) (eqb x j) (eq-eqb x j (sym e)))
      | inr ne ↦
          known_same (mated_before g r x) (mated_within g r x) (with_node done j x) (done x) (other done j x ne)
          ∙ or_false (is_known_loss g r done x) ∙ ap (λ b. is_known_loss g r done x || b) (sym (ne_eqb x j (λ e. ne (sym e))))
    ]

    found : (i : ℕ) → is_winning g r (with_node done j) due i ≡ (is_winning g r done due i || ltb 0 (count_of i (ins g j)))
    found i =
        ap (λ b. b || list_any (is_lost_before due) (leaves g i)) (any_or _ _ _ known (outs g i))
        ∙ or_turn (list_any (is_known_loss g r done) (outs g i)) (list_any (λ x. eqb x j) (outs g i)) (list_any (is_lost_before due) (leaves g i))
        ∙ ap (λ b. is_winning g r done due i || b) (some_counts (λ x. eqb x j) (outs g i) ∙ ap (ltb 0) (sym (moves_match g law i j)))

    waiting : (i : ℕ) → 0 < count_of i (ins g j) → 0 < waits_at g r done won i
    waiting i some =
        let e = moves_match g law i j in
        let le = count_weaker (λ x. eqb x j) (λ x. not (is_known_win g r done x)) unknown (outs g i) in
        omega arith
      where
        unknown : (x : ℕ) → eqb x j ≡ true → not (is_known_win g r done x) ≡ true
        unknown x t =
            let e = eqb-true x j t in
            not_from_false _ (false_from_ne_true _ (λ k. ⊎_elim
            (λ b. both_ways _ no_win (ap (mates_within g r) (sym e) ∙ mates_before_within g r x b))
            (λ w. both_ways _ no_win (ap (mates_within g r) (sym e) ∙ (and_parts (mates_within g r x) (done x) w).0))
            (or_cases (mates_before g r x) _ k)))

no_more : (a b c : ℕ) → a ≡ b → c ≡ 0 → a ≡ b + c
no_more a b c p q = omega arith

-- before the moves into a won node are taken back each node waits for as many more
pub less : (g : Graph) (law : IsGame g) (r : ℕ) (done : ℕ → Bool) (won j : ℕ)
    → IsNode g j → mates_within g r j ≡ true → mates_before g r j ≡ false → done j ≡ false
    → (i : ℕ) → waits_at g r (with_node done j) won i + count_of i (ins g j) ≡ waits_at g r done won i
less g law r done won j node wins fresh undone i =
    let e = count_split (λ x. not (is_known_win g r done x)) (λ x. not (is_known_win g r (with_node done j) x)) (λ x. eqb x j) one (outs g i) in
    let m = moves_match g law i j in
    omega arith
  where
    one : (x : ℕ) → cond (not (is_known_win g r done x)) 1 0 ≡ cond (not (is_known_win g r (with_node done j) x)) 1 0 + cond (eqb x j) 1 0
    one x = elim (cases_eq j x) [
      | inl e ↦
          let a = known_not (mates_before g r x) (mates_within g r x) (done x) (ap (mates_before g r) (sym e) ∙ fresh) (ap done (sym e) ∙ undone) in
          let b = known_now (mates_before g r x) (mates_within g r x) (with_node done j x) (ap (mates_within g r) (sym e) ∙ wins) (ap (with_node done j) (sym e) ∙ itself done j) in
          ap (λ t. cond (not t) 1 0) a ∙ sym (ap₂ (λ t u. cond (not t) 1 0 + cond u 1 0) b (eq-eqb x j (sym e)))
      | inr ne ↦
          let a = known_same (mates_before g r x) (mates_within g r x) (done x) (with_node done j x) (sym (other done j x ne)) in
          let f = ne_eqb x j (λ e. ne (sym e)) in
          no_more _ _ _ (ap (λ t. cond (not t) 1 0) a) (ap (λ t. cond t 1 0) f)
    ]

-- a won node of the round: the nodes that lead to it wait for one move less
pub won_node_takes_back : (g : Graph) (law : IsGame g) (r : ℕ) (done : ℕ → Bool) (due won j : ℕ) (es ws es' ws' : List ℕ)
    → IsNode g j → mates_within g r j ≡ true → mates_before g r j ≡ false → done j ≡ false
    → Amid g r done due won es ws → TakesBack es ws (ins g j) (r + 1) es' ws' → Amid g r (with_node done j) due won es' ws'
won_node_takes_back g law r done due won j es ws es' ws' node wins fresh undone h takes =
    Hold-same (is_winning g r (with_node done j) due) (waits_at g r (with_node done j) won)
    (Hold-take (waits_at g r (with_node done j) won) (ins g j) es' ws' h takes (less g law r done won j node wins fresh undone) moved)
    (λ i. ap (λ b. b || list_any (is_lost_before due) (leaves g i)) (any_same _ _ unchanged (outs g i))) (λ i. refl)
  where
    no_loss : mated_within g r j ≡ false
    no_loss = false_from_ne_true _ (λ m. never_both g law r j node wins m)

    unchanged : (x : ℕ) → is_known_loss g r done x ≡ is_known_loss g r (with_node done j) x
    unchanged x = elim (cases_eq j x) [
      | inl e ↦ known_off (mated_before g r x) (mated_within g r x) (done x) (with_node done j x) (ap (mated_within g r) (sym e) ∙ no_loss)
      | inr ne ↦ known_same (mated_before g r x) (mated_within g r x) (done x) (with_node done j x) (sym (other done j x ne))
    ]

    moved : (i : ℕ) → 0 < count_of i (ins g j) → has_moves g i ≡ true
    moved i some = let e = moves_match g law i j in moved_has_moves g i j (omega arith)
