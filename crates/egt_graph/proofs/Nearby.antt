-- The nearest mate, ply by ply: what is found in a round is what is one ply further away, and where nothing more is found all is known.
use Rattle.std.proofs.Common.{◌≡◌, ◌≢◌, ℕ, zero, suc, ◌+◌, ◌*◌, ◌<◌, ◌≤◌, ◌⊎◌, Bool, true, false, cond, ◌||◌, eqb, ltb}
use Rattle.std.proofs.Common.{List, [], ◌∷◌, ◌++◌, length, slice_index, slice_index_or, get_or, refl, sym, ap, ◌∙◌}
use Rattle.std.proofs.Common.{subst, inl, inr, ⊎_elim, arith, All, Contains, count_by, Option, Some, None}
use Rattle.egt_graph.specs.Prelude.{list_any, false≢true, cases_Bool, cases_lt, cases_eq, or_cases, or_left, or_right}
use Rattle.egt_graph.specs.Prelude.{ltb-true, lt-ltb, le-ltb, eq-eqb, ne_eqb, both_ways, get_or_default, length_push}
use Rattle.egt_graph.specs.Prelude.{All-head, All-tail, All-contains, Contains-append_left, Contains-append_right}
use Rattle.egt_graph.specs.Prelude.{Contains-append_cases, Graph, IsNode, IsGame, HasShortDistance, is_node, leaves}
use Rattle.egt_graph.specs.Prelude.{count_of, decided, Marks, is_loss_of, is_win_of, Adds, IsFilled, is_near_exit}
use Rattle.egt_graph.specs.Prelude.{near_within, near_before, HasNear, near_entry_of, IsShort, AreNears, SomeFar}
use Rattle.egt_graph.specs.Prelude.{near_at, IsNearing, IsNearingTo, led_from, found_by, Finds, AreFound, NoneLater}
use Rattle.egt_graph.specs.Prelude.{near_of_entry, AreTold, IsOver, Exit, Nearing}
use Rattle.egt_graph.proofs.Beginning.{at_every, Filled_more, pushed, outside}
use Rattle.egt_graph.proofs.Exits.{below_next}
use Rattle.egt_graph.proofs.Values.{stays_later}
use Rattle.egt_graph.proofs.Holding.{decided_open, decided_shut, decided_mark, win_is_no_draw}
use Rattle.egt_graph.proofs.Lists.{any_weaker, any_or, some_counts, counted_contains, contains_counted, any_contains}
use Rattle.egt_graph.proofs.Lists.{contains_any}
use Rattle.egt_graph.proofs.Nodes.{node_from_test, test_from_node, leaves_at, leaves_none, or_false}

pub same_both : (a b : Bool) → (a ≡ true → b ≡ true) → (b ≡ true → a ≡ true) → a ≡ b
same_both a b there back = grind arith

-- ---- more plies

near_exit_more : (n m : ℕ) → n ≤ m → (e : Exit) → is_near_exit n e ≡ true → is_near_exit m e ≡ true
near_exit_more n m le e h = grind (arith, ltb-true, lt-ltb)

near_more : (g : Graph) (n i : ℕ) → near_within g n i ≡ true → near_within g (suc n) i ≡ true
near_more g zero i h = or_left _ _ h
near_more g (suc n) i h = ⊎_elim
    (λ m. or_left _ _ m)
    (λ r. or_right (g.mated i) _ (⊎_elim
    (λ a. or_left _ _ (any_weaker (near_within g n) (near_within g (suc n)) (near_more g n) (g.out i) a))
    (λ b. or_right (list_any (near_within g (suc n)) (g.out i)) _ (any_weaker (is_near_exit (suc n)) (is_near_exit (suc (suc n))) (near_exit_more (suc n) (suc (suc n)) (omega arith)) (g.exits i) b))
    (or_cases (list_any (near_within g n) (g.out i)) _ r)))
    (or_cases (g.mated i) _ h)

pub near_le : (g : Graph) (i n m : ℕ) → n ≤ m → near_within g n i ≡ true → near_within g m i ≡ true
near_le g i = stays_later (λ n. near_within g n i) (λ n. near_more g n i)

-- the parts of it
pub near_by_move : (g : Graph) (n i j : ℕ) → Contains (g.out i) j → near_within g n j ≡ true → near_within g (suc n) i ≡ true
near_by_move g n i j has t = or_right (g.mated i) _ (or_left _ _ (contains_any (near_within g n) (g.out i) j has t))

pub near_by_exit : (g : Graph) (n i : ℕ) → list_any (is_near_exit (suc n)) (g.exits i) ≡ true → near_within g (suc n) i ≡ true
near_by_exit g n i t = or_right (g.mated i) _ (or_right (list_any (near_within g n) (g.out i)) _ t)

-- ---- what an entry tells

abbrev pub Known : Graph → ℕ → ℕ → Type 0
Known g r i = ((near_at g r i ≡ 1) × (near_within g r i ≡ false))
    ⊎ ((n : ℕ) × (n ≤ r) × (near_at g r i ≡ 2 + 2 * n) × (near_within g n i ≡ true) × (near_before g n i ≡ false))

pub near_known : (g : Graph) (r i : ℕ) → is_node g i ≡ true → Known g r i
near_known g zero i node = elim (cases_Bool (g.mated i)) [
  | inl t ↦ inr (0, omega arith, ap (λ b. cond b (cond (g.mated i) 2 1) 0) node ∙ ap (λ b. cond b 2 1) t, t, refl)
  | inr f ↦ inl (ap (λ b. cond b (cond (g.mated i) 2 1) 0) node ∙ ap (λ b. cond b 2 1) f, f)
]
near_known g (suc r) i node = elim (near_known g r i node) [
  | inl k ↦ elim (cases_Bool (near_within g (suc r) i)) [
    | inl t ↦ inr (suc r, omega arith, decided_open (near_at g r i) (suc r) (near_within g (suc r) i) false (eq-eqb _ _ k.0) ∙ ap (λ b. cond b (2 + 2 * suc r) 1) t, t, k.1)
    | inr f ↦ inl (decided_open (near_at g r i) (suc r) (near_within g (suc r) i) false (eq-eqb _ _ k.0) ∙ ap (λ b. cond b (2 + 2 * suc r) 1) f, f)
  ]
  | inr k ↦ inr (k.0, omega (arith, k.1), decided_shut (near_at g r i) (suc r) (near_within g (suc r) i) false (ap (λ e. eqb e 1) k.2 ∙ win_is_no_draw k.0) ∙ k.2, k.3, k.4)
]

pub near_none : (g : Graph) (r i : ℕ) → is_node g i ≡ false → near_at g r i ≡ 0
near_none g zero i f = ap (λ b. cond b (cond (g.mated i) 2 1) 0) f
near_none g (suc r) i f = decided_shut (near_at g r i) (suc r) (near_within g (suc r) i) false (ap (λ e. eqb e 1) (near_none g r i f)) ∙ near_none g r i f

-- an entry of the round is of a node that is so many plies away
pub of_round : (g : Graph) (r s i : ℕ) → near_at g r i ≡ 2 + 2 * s → (is_node g i ≡ true) × (near_within g s i ≡ true) × (near_before g s i ≡ false)
of_round g r s i is = grind (arith, cases_Bool, near_none, near_known)

-- a node that was not near within r and is within one more is exactly one more away
at_round : (g : Graph) (r i : ℕ) → is_node g i ≡ true → near_within g r i ≡ true → ((m : ℕ) → m < r → near_within g m i ≡ true → ⊥) → near_at g r i ≡ 2 + 2 * r
at_round g r i node near none = grind (arith, near_known, both_ways)

-- ---- exits of each number

near_exit_next : (r : ℕ) (e : Exit) → is_near_exit (suc r) e ≡ (is_near_exit r e || (is_loss_of r e || is_win_of r e))
near_exit_next r e = grind (arith, below_next, or_false)

pub exits_next : (r : ℕ) (es : List Exit) → list_any (is_near_exit (suc r)) es ≡ (list_any (is_near_exit r) es || (list_any (is_loss_of r) es || list_any (is_win_of r) es))
exits_next r es =
    any_or (is_near_exit (suc r)) (is_near_exit r) (λ e. is_loss_of r e || is_win_of r e) (near_exit_next r) es
    ∙ ap (λ b. list_any (is_near_exit r) es || b) (any_or (λ e. is_loss_of r e || is_win_of r e) (is_loss_of r) (is_win_of r) (λ e. refl) es)

-- the nodes with such an exit are those that fall due
pub falls_due : (g : Graph) (test : ℕ → Exit → Bool) (due : List (List ℕ)) → IsFilled g test g.size due → (n i : ℕ) → ltb 0 (count_of i (slice_index_or due n [])) ≡ list_any (test n) (leaves g i)
falls_due g test due filled n i = elim (cases_lt i g.size) [
  | inl lt ↦ ap (λ k. ltb 0 k) (filled.before n i lt) ∙ sym (some_counts (test n) (leaves g i))
  | inr past ↦ ap (λ k. ltb 0 k) (filled.after n i past) ∙ sym (ap (list_any (test n)) (leaves_none g i (outside g i past)))
]

due_counts : (g : Graph) (test : ℕ → Exit → Bool) (due : List (List ℕ)) → IsFilled g test g.size due → (n i : ℕ) → IsNode g i
    → ltb 0 (count_of i (slice_index_or due n [])) ≡ list_any (test n) (g.exits i)
due_counts g test due filled n i node = falls_due g test due filled n i ∙ ap (list_any (test n)) (leaves_at g i (test_from_node g i node))

-- ---- one ply more

-- no exit has a number below 0
pub no_exit_at_once : (es : List Exit) → list_any (is_near_exit 0) es ≡ true → ⊥
no_exit_at_once [] u = false≢true u
no_exit_at_once (e ∷ es) u = ⊎_elim (first e) (no_exit_at_once es) (or_cases (is_near_exit 0 e) _ u)
  where
    first : (e : Exit) → is_near_exit 0 e ≡ true → ⊥
    first e v = grind (arith, ltb-true)

-- nor one below r, of a node that is not near within r
pub no_sooner_exit : (g : Graph) (r i : ℕ) → near_within g r i ≡ false → list_any (is_near_exit r) (g.exits i) ≡ true → ⊥
no_sooner_exit g zero i far t = no_exit_at_once (g.exits i) t
no_sooner_exit g (suc m) i far t = both_ways (near_within g (suc m) i) far (near_by_exit g m i t)

-- what is near one ply later leaves by an exit, or leads to a node of the round
pub near_next : (g : Graph) → IsGame g → (r i : ℕ) → IsNode g i → near_within g r i ≡ false → near_within g (suc r) i ≡ true
    → (list_any (is_near_exit (suc r)) (g.exits i) ≡ true) ⊎ ((j : ℕ) × Contains (g.out i) j × (near_at g r j ≡ 2 + 2 * r))
near_next g law r i node far h = ⊎_elim (λ m. absurd (never 0 (omega arith) m)) (λ t. ⊎_elim (λ a. inr (move a)) inl (or_cases (list_any (near_within g r) (g.out i)) _ t)) (or_cases (g.mated i) _ h)
  where
    never : (m : ℕ) → m ≤ r → near_within g m i ≡ true → ⊥
    never m le t = both_ways (near_within g r i) far (near_le g i m r le t)

    move : list_any (near_within g r) (g.out i) ≡ true → (j : ℕ) × Contains (g.out i) j × (near_at g r j ≡ 2 + 2 * r)
    move t =
        let (j, has, is) = any_contains (near_within g r) (g.out i) t in
        let there = All-contains (IsNode g) (g.out i) j (law.out_nodes i node) has in
        (j, has, at_round g r j (test_from_node g j there) is (λ m lt n. never (suc m) (omega arith) (near_by_move g m i j has n)))

-- what round r finds
abbrev pub found_at : Graph → List ℕ → List (List ℕ) → List (List ℕ) → ℕ → ℕ → Bool
found_at g found lost won r = found_by g found (slice_index_or lost r []) (slice_index_or won r [])

module _ (g : Graph) (law : IsGame g) (r : ℕ) (run : Nearing) (known : IsNearing g r run) (found : List ℕ) (all : AreFound run.entries.items r (length run.entries.items) found) where
  found_near : (i : ℕ) → IsNode g i → found_at g found run.lost_due run.won_due r i ≡ true → near_within g (suc r) i ≡ true
  found_near i node h = ⊎_elim (λ a. ⊎_elim led due_lost (or_cases (led_from g found i) _ a)) due_won (or_cases (led_from g found i || ltb 0 (count_of i (slice_index_or run.lost_due r []))) _ h)
    where
      led : led_from g found i ≡ true → near_within g (suc r) i ≡ true
      led t =
          let (j, has, is) = any_contains (λ j. ltb 0 (count_of i (g.into j))) found t in
          let s = all.sound j has in
          let o = of_round g r r j (sym (known.entry j) ∙ s.1) in
          let c = law.forth i j node (node_from_test g j o.0) (counted_contains i (g.into j) (ltb-true 0 _ is)) in
          near_by_move g r i j c o.1

      by_exit : list_any (is_loss_of r) (g.exits i) || list_any (is_win_of r) (g.exits i) ≡ true → near_within g (suc r) i ≡ true
      by_exit t = near_by_exit g r i (exits_next r (g.exits i) ∙ or_right (list_any (is_near_exit r) (g.exits i)) _ t)

      due_lost : ltb 0 (count_of i (slice_index_or run.lost_due r [])) ≡ true → near_within g (suc r) i ≡ true
      due_lost t = by_exit (or_left _ _ (sym (due_counts g is_loss_of run.lost_due known.lost r i node) ∙ t))

      due_won : ltb 0 (count_of i (slice_index_or run.won_due r [])) ≡ true → near_within g (suc r) i ≡ true
      due_won t = by_exit (or_right (list_any (is_loss_of r) (g.exits i)) _ (sym (due_counts g is_win_of run.won_due known.won r i node) ∙ t))

  near_found : (i : ℕ) → IsNode g i → near_within g r i ≡ false → near_within g (suc r) i ≡ true → found_at g found run.lost_due run.won_due r i ≡ true
  near_found i node far h = ⊎_elim exit move (near_next g law r i node far h)
    where
      Found : Type 0
      Found = found_at g found run.lost_due run.won_due r i ≡ true

      move : (j : ℕ) × Contains (g.out i) j × (near_at g r j ≡ 2 + 2 * r) → Found
      move (j, has, e) =
          let there = All-contains (IsNode g) (g.out i) j (law.out_nodes i node) has in
          let f = all.complete j (omega (arith, there.in_range, known.long)) (known.entry j ∙ e) in
          or_left _ _ (or_left _ _ (contains_any (λ j. ltb 0 (count_of i (g.into j))) found j f (lt-ltb 0 _ (let back = law.back i j node there has in contains_counted i (g.into j) back.0 back.1 back.2))))

      exit : list_any (is_near_exit (suc r)) (g.exits i) ≡ true → Found
      exit t = ⊎_elim (λ s. absurd (no_sooner_exit g r i far s)) now (or_cases (list_any (is_near_exit r) (g.exits i)) _ (sym (exits_next r (g.exits i)) ∙ t))
        where
          now : list_any (is_loss_of r) (g.exits i) || list_any (is_win_of r) (g.exits i) ≡ true → Found
          now u = ⊎_elim
              (λ l. or_left _ _ (or_right (led_from g found i) _ (due_counts g is_loss_of run.lost_due known.lost r i node ∙ l)))
              (λ w. or_right (led_from g found i || ltb 0 (count_of i (slice_index_or run.lost_due r []))) _ (due_counts g is_win_of run.won_due known.won r i node ∙ w))
              (or_cases (list_any (is_loss_of r) (g.exits i)) _ u)

  -- the entries after a round
  pub found_next : (entries : List ℕ) → Finds run.entries.items (found_at g found run.lost_due run.won_due r) (suc r) entries → (i : ℕ) → slice_index entries i ≡ near_at g (suc r) i
  found_next entries finds i = finds i ∙ ap (λ b. decided b (found_at g found run.lost_due run.won_due r i) false (suc r)) (known.entry i) ∙ go
    where
      go : decided (near_at g r i) (found_at g found run.lost_due run.won_due r i) false (suc r) ≡ decided (near_at g r i) (near_within g (suc r) i) false (suc r)
      go = elim (cases_Bool (is_node g i)) [
        | inr f ↦
            let s : eqb (near_at g r i) 1 ≡ false = ap (λ e. eqb e 1) (near_none g r i f) in
            decided_shut (near_at g r i) (suc r) (found_at g found run.lost_due run.won_due r i) false s ∙ sym (decided_shut (near_at g r i) (suc r) (near_within g (suc r) i) false s)
        | inl t ↦ elim (near_known g r i t) [
          | inl k ↦ ap (λ w. decided (near_at g r i) w false (suc r))
              (same_both _ _ (found_near i (node_from_test g i t)) (near_found i (node_from_test g i t) k.1))
          | inr k ↦
              let s : eqb (near_at g r i) 1 ≡ false = ap (λ e. eqb e 1) k.2 ∙ win_is_no_draw k.0 in
              decided_shut (near_at g r i) (suc r) (found_at g found run.lost_due run.won_due r i) false s ∙ sym (decided_shut (near_at g r i) (suc r) (near_within g (suc r) i) false s)
        ]
      ]

-- what is found in parts is found in all
pub finds_both : (a b c : List ℕ) (p q : ℕ → Bool) (n : ℕ) → Finds a p n b → Finds b q n c → Finds a (λ i. p i || q i) n c
finds_both a b c p q n x y i = y i ∙ ap (λ e. decided e (q i) false n) (x i) ∙ decided_mark (slice_index a i) n (p i) (q i) false (λ _. refl)

-- ---- the end

module _ (g : Graph) (law : IsGame g) (r : ℕ) (run : Nearing) (known : IsNearing g (suc r) run) (over : IsOver run r) where
  settled : (i : ℕ) → IsNode g i → near_within g (suc r) i ≡ true → near_within g r i ≡ true
  settled i node t = elim (near_known g (suc r) i (test_from_node g i node)) [
    | inl k ↦ absurd (both_ways (near_within g (suc r) i) k.1 t)
    | inr k ↦ elim (cases_lt k.0 (suc r)) [
      | inl less ↦ near_le g i k.0 r (omega (arith, less)) k.3
      | inr ge ↦
          let e : k.0 ≡ r + 1 = omega (arith, k.1, ge) in
          absurd (over.none i (omega (arith, node.in_range, known.long)) (known.entry i ∙ k.2 ∙ ap (λ n. 2 + 2 * n) e))
    ]
  ]

  -- an exit later than r would have fallen due
  in_time : (n i : ℕ) → IsNode g i → list_any (is_near_exit n) (g.exits i) ≡ true → list_any (is_near_exit (suc r)) (g.exits i) ≡ true
  in_time zero i node t = absurd (no_exit_at_once (g.exits i) t)
  in_time (suc n) i node t = ⊎_elim (in_time n i node) now (or_cases (list_any (is_near_exit n) (g.exits i)) _ (sym (exits_next n (g.exits i)) ∙ t))
    where
      late : (test : ℕ → Exit → Bool) (due : List (List ℕ)) → IsFilled g test g.size due → NoneLater r due → list_any (test n) (g.exits i) ≡ true → n ≤ r
      late test due filled none u = elim (cases_lt r n) [
        | inr le ↦ le
        | inl gt ↦
            let c = ltb-true 0 _ (due_counts g test due filled n i node ∙ u) in
            let z = none n i gt in absurd (omega arith)
      ]

      up : n ≤ r → list_any (is_near_exit (suc r)) (g.exits i) ≡ true
      up le = any_weaker (is_near_exit (suc n)) (is_near_exit (suc r)) (near_exit_more (suc n) (suc r) (omega (arith, le))) (g.exits i) t

      now : list_any (is_loss_of n) (g.exits i) || list_any (is_win_of n) (g.exits i) ≡ true → list_any (is_near_exit (suc r)) (g.exits i) ≡ true
      now u = up (⊎_elim (late is_loss_of run.lost_due known.lost over.lost) (late is_win_of run.won_due known.won over.won) (or_cases (list_any (is_loss_of n) (g.exits i)) _ u))

  -- nothing is nearer than it is known to be
  pub all_known : (n i : ℕ) → IsNode g i → near_within g n i ≡ true → near_within g r i ≡ true
  all_known zero i node t = near_le g i 0 r (omega arith) t
  all_known (suc n) i node t = ⊎_elim
      (λ m. near_le g i 0 r (omega arith) m)
      (λ u. settled i node (⊎_elim
      (λ a.
      let (j, has, is) = any_contains (near_within g n) (g.out i) a in
      near_by_move g r i j has (all_known n j (All-contains (IsNode g) (g.out i) j (law.out_nodes i node) has) is))
      (λ b. near_by_exit g r i (in_time (suc n) i node b))
      (or_cases (list_any (near_within g n) (g.out i)) _ u)))
      (or_cases (g.mated i) _ t)

  told_win : (n : ℕ) → near_of_entry (2 + 2 * n) ≡ 2 + n
  told_win n = grind (arith, le-ltb)

  pub are_nears : r ≤ 32000 → (told : List ℕ) → AreTold run.entries.items told → AreNears g told
  are_nears short told tells = record {
    all = tells.long ∙ known.long;
    voids = λ i lt v.
        let f : is_node g i ≡ false = elim (cases_Bool (is_node g i)) [ inr f ↦ f | inl t ↦ absurd (let n = node_from_test g i t in both_ways (g.void i) n.not_void v) ] in
        tells.each i (omega (arith, known.long)) ∙ ap near_of_entry (known.entry i ∙ near_none g (suc r) i f);
    nears = λ i node. go i node (near_known g (suc r) i (test_from_node g i node));
  }
    where
      go : (i : ℕ) → IsNode g i → Known g (suc r) i → (x : Option ℕ) × HasNear g i x × IsShort x × (slice_index told i ≡ near_entry_of x)
      go i node (inl k) = (None, (λ n. never n), tt, tells.each i (omega (arith, node.in_range, known.long)) ∙ ap near_of_entry (known.entry i ∙ k.0))
        where
          never : (n : ℕ) → near_within g n i ≡ false
          never n = elim (cases_Bool (near_within g n i)) [ inr f ↦ f | inl t ↦ absurd (both_ways (near_within g (suc r) i) k.1 (near_more g r i (all_known n i node t))) ]
      go i node (inr k) = (Some k.0, (k.3, k.4), le, tells.each i (omega (arith, node.in_range, known.long)) ∙ ap near_of_entry (known.entry i ∙ k.2) ∙ told_win k.0)
        where
          le : k.0 ≤ 32000
          le = grind (arith, both_ways, all_known, near_le)

-- values from outside are short
pub none_later : (g : Graph) → IsGame g → (test : ℕ → Exit → Bool) → ((n : ℕ) (e : Exit) → HasShortDistance e → 32000 < n → test n e ≡ false)
    → (due : List (List ℕ)) → IsFilled g test g.size due → NoneLater 32000 due
none_later g law test late due filled n i gt = elim (cases_Bool (is_node g i)) [
  | inl t ↦
      let node = node_from_test g i t in
      filled.before n i node.in_range ∙ ap (count_by (test n)) (leaves_at g i t) ∙ count_none (g.exits i) (law.short_exits i node)
  | inr f ↦ elim (cases_lt i g.size) [
    | inr ge ↦ filled.after n i ge
    | inl lt ↦ filled.before n i lt ∙ ap (λ b. count_by (test n) (cond b (g.exits i) [])) f
  ]
]
  where
    count_none : (es : List Exit) → All HasShortDistance es → count_by (test n) es ≡ 0
    count_none es short = elim (cases_Bool (list_any (test n) es)) [
      | inr f ↦ elim (cases_lt 0 (count_by (test n) es)) [
        | inl some ↦ absurd (both_ways (list_any (test n) es) f (some_counts (test n) es ∙ lt-ltb 0 _ some))
        | inr le ↦ omega (arith, le)
      ]
      | inl t ↦ absurd (no_late es short t)
    ]
      where
        no_late : (es : List Exit) → All HasShortDistance es → list_any (test n) es ≡ true → ⊥
        no_late [] short h = false≢true h
        no_late (e ∷ es) short h = ⊎_elim (λ a. both_ways (test n e) (late n e (All-head HasShortDistance e es short) gt) a) (no_late es (All-tail HasShortDistance e es short)) (or_cases (test n e) _ h)

late_loss : (n : ℕ) (e : Exit) → HasShortDistance e → 32000 < n → is_loss_of n e ≡ false
late_loss n e short gt = grind (arith, ne_eqb)

late_win : (n : ℕ) (e : Exit) → HasShortDistance e → 32000 < n → is_win_of n e ≡ false
late_win n e short gt = grind (arith, ne_eqb)

over_at_last : (g : Graph) → IsGame g → (run : Nearing) → IsNearing g 32001 run
    → ((i : ℕ) → i < length run.entries.items → slice_index run.entries.items i ≢ 2 + 2 * 32001) → IsOver run 32000
over_at_last g law run known none = record {
  none = none;
  lost = none_later g law is_loss_of late_loss run.lost_due known.lost;
  won = none_later g law is_win_of late_win run.won_due known.won;
}

pub far_found : (g : Graph) (run : Nearing) → IsNearing g 32001 run → (i : ℕ) → slice_index run.entries.items i ≡ 2 + 2 * 32001 → SomeFar g
far_found g run known i is =
    let o = of_round g 32001 32001 i (sym (known.entry i) ∙ is) in
    (i, node_from_test g i o.0, (32001, o.1), o.2)

-- ---- the loops

pub found_more : (entries : List ℕ) (r k : ℕ) (found : List ℕ) → AreFound entries r k found → slice_index entries k ≡ 2 + 2 * r → AreFound entries r (k + 1) (found ++ k ∷ [])
found_more entries r k found h is = record {
  sound = λ i has. elim (Contains-append_cases found (k ∷ []) i has) [
    | inl a ↦ let s = h.sound i a in (omega (arith, s.0), s.1)
    | inr b ↦ let e : k ≡ i = last i b in (omega (arith, e), ap (slice_index entries) (sym e) ∙ is)
  ];
  complete = λ i lt e. elim (cases_eq k i) [
    | inl same ↦ Contains-append_right found (k ∷ []) i (0, omega arith, same)
    | inr other ↦ Contains-append_left found (k ∷ []) i (h.complete i (omega (arith, lt, other)) e)
  ];
}
  where
    last : (i : ℕ) → Contains (k ∷ []) i → k ≡ i
    last i h = grind arith

pub found_past : (entries : List ℕ) (r k : ℕ) (found : List ℕ) → AreFound entries r k found → slice_index entries k ≢ 2 + 2 * r → AreFound entries r (k + 1) found
found_past entries r k found h ne = record {
  sound = λ i has. let s = h.sound i has in (omega (arith, s.0), s.1);
  complete = λ i lt e. elim (cases_eq k i) [
    | inl same ↦ absurd (ne (ap (slice_index entries) same ∙ e))
    | inr other ↦ h.complete i (omega (arith, lt, other)) e
  ];
}

pub found_nodes : (g : Graph) (r : ℕ) (run : Nearing) → IsNearing g r run → (found : List ℕ) → AreFound run.entries.items r (length run.entries.items) found → All (IsNode g) found
found_nodes g r run known found all k d lt =
    let s = all.sound (get_or found k d) (k, lt, get_or_default found k (get_or found k d) d lt) in
    node_from_test g (get_or found k d) (of_round g r r (get_or found k d) (sym (known.entry (get_or found k d)) ∙ s.1)).0

-- what falls due is within the entries
pub due_within : (g : Graph) (test : ℕ → Exit → Bool) (due : List (List ℕ)) → IsFilled g test g.size due → (n : ℕ) → All (λ i. i < g.size) (slice_index_or due n [])
due_within g test due filled n k d lt = elim (cases_lt (get_or (slice_index_or due n []) k d) g.size) [
  | inl less ↦ less
  | inr ge ↦
      let c = contains_counted (get_or (slice_index_or due n []) k d) (slice_index_or due n []) k lt (get_or_default (slice_index_or due n []) k (get_or (slice_index_or due n []) k d) d lt) in
      let z = filled.after n (get_or (slice_index_or due n []) k d) ge in absurd (omega arith)
]

pub nearing_more : (g : Graph) (m : ℕ) (run : Nearing) → IsNearingTo g m run → (e : ℕ) → e ≡ near_at g 0 m → (run' : Nearing) → run'.entries.items ≡ run.entries.items ++ e ∷ []
    → Adds is_loss_of run.lost_due run'.lost_due m (leaves g m) → Adds is_win_of run.won_due run'.won_due m (leaves g m) → IsNearingTo g (m + 1) run'
nearing_more g m run h e is run' items lost won = record {
  long = ap length items ∙ length_push run.entries.items e ∙ ap (λ n. n + 1) h.long;
  entry = λ i lt. ap (λ xs. slice_index xs i) items ∙ pushed 0 (near_at g 0) run.entries.items m e h.long h.entry is i lt;
  lost = Filled_more g is_loss_of m run.lost_due run'.lost_due h.lost lost;
  won = Filled_more g is_win_of m run.won_due run'.won_due h.won won;
}

pub nearing_begun : (g : Graph) (m : ℕ) (run : Nearing) → m ≡ g.size → IsNearingTo g m run → IsNearing g 0 run
nearing_begun g m run e h = record {
  long = h.long ∙ e;
  entry = at_every g 0 (near_at g 0) run.entries.items (h.long ∙ e) (λ i lt. h.entry i (omega (arith, e, lt))) (near_none g 0);
  lost = subst (λ n. IsFilled g is_loss_of n run.lost_due) e h.lost;
  won = subst (λ n. IsFilled g is_win_of n run.won_due) e h.won;
}

-- what is found one after the other
pub found_in_turn : (g : Graph) (n : ℕ) (found lost won a b c d : List ℕ) → Finds a (led_from g found) n b → Marks b lost n c → Marks c won n d → Finds a (found_by g found lost won) n d
found_in_turn g n found lost won a b c d x y z = grind (arith, finds_both)

-- a round as it is done
pub round_done : (g : Graph) → IsGame g → (r : ℕ) (run : Nearing) → IsNearing g r run → (found : List ℕ) → AreFound run.entries.items r (length run.entries.items) found
    → (run' : Nearing) → Finds run.entries.items (found_at g found run.lost_due run.won_due r) (r + 1) run'.entries.items → length run'.entries.items ≡ length run.entries.items
    → run'.lost_due ≡ run.lost_due → run'.won_due ≡ run.won_due → IsNearing g (r + 1) run'
round_done g law r run known found all run' finds long lost won =
    let e : r + 1 ≡ suc r = omega arith in
    subst (λ n. IsNearing g n run') (sym e) (record {
      long = long ∙ known.long;
      entry = found_next g law r run known found all run'.entries.items (subst (λ n. Finds run.entries.items (found_at g found run.lost_due run.won_due r) n run'.entries.items) e finds);
      lost = subst (λ d. IsFilled g is_loss_of g.size d) (sym lost) known.lost;
      won = subst (λ d. IsFilled g is_win_of g.size d) (sym won) known.won;
    })

-- the run is over after the round
pub nears_told : (g : Graph) → IsGame g → (r : ℕ) (run : Nearing) → IsNearing g (r + 1) run → IsOver run r → r ≤ 32000 → (told : List ℕ) → AreTold run.entries.items told → AreNears g told
nears_told g law r run known over short told tells =
    let e : r + 1 ≡ suc r = omega arith in are_nears g law r run (subst (λ n. IsNearing g n run) e known) over short told tells

-- or after the last
pub nears_at_last : (g : Graph) → IsGame g → (run : Nearing) → IsNearing g 32001 run → ((i : ℕ) → i < length run.entries.items → slice_index run.entries.items i ≢ 2 + 2 * 32001)
    → (told : List ℕ) → AreTold run.entries.items told → AreNears g told
nears_at_last g law run known none = nears_told g law 32000 run known (over_at_last g law run known none) (omega arith)
