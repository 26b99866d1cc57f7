-- Entries that are due are the ranks and the numbers of the nearest mates: by the number in the entry each is reached, and by plies none is sooner.
use Rattle.std.proofs.Common.{◌≡◌, ℕ, zero, suc, ◌+◌, ◌*◌, ◌<◌, ◌≤◌, ◌&&◌, true, false, not, List, [], Contains}
use Rattle.std.proofs.Common.{length, slice_index, Option, Some, None, refl, sym, ap, subst, ◌∙◌, inl, inr, arith}
use Rattle.egt_graph.specs.Prelude.{list_any, list_all, option_map, and_from, and_parts, both_ways, cases_Bool}
use Rattle.egt_graph.specs.Prelude.{false_from_ne_true, false≢true, lt-ltb, ltb-true, or_cases, or_from, or_left}
use Rattle.egt_graph.specs.Prelude.{or_right, All-contains, AreDue, IsAsGood, IsAsNear, IsBest, IsDueAt, IsNext}
use Rattle.egt_graph.specs.Prelude.{Measure, SameNext, near_outside, nears, value_before, values, Graph, IsGame, IsNode}
use Rattle.egt_graph.specs.Prelude.{AreNears, HasNear, IsShort, SomeFar, is_near_exit, near_entry_of, near_within}
use Rattle.egt_graph.specs.Prelude.{AreRanks, HasRank, IsWithin, SomeAbove, entry_of, has_move, is_empty}
use Rattle.egt_graph.specs.Prelude.{is_lost_before, is_won_before, mated_within, mates_within, Exit, Win, Loss, Draw}
use Rattle.egt_graph.proofs.Lists.{all_contains, any_contains, contains_all, contains_any}
use Rattle.egt_graph.proofs.Nearby.{near_by_exit, near_by_move}
use Rattle.egt_graph.proofs.Values.{mates_le, mated_le}

not_empty : {X : Type 0} (xs : List X) (x : X) → Contains xs x → is_empty xs ≡ false
not_empty xs x has = grind arith

none_there : {X : Type 0} (xs : List X) (x : X) → xs ≡ [] → Contains xs x → ⊥
none_there xs x none has = both_ways (is_empty xs) (not_empty xs x has) (ap is_empty none)

-- ---- whatever is measured

module _ (measure : Measure) (g : Graph) where
  -- what is due stays so while no successor's entry changes
  pub due_stays : (entry other_entry : ℕ → ℕ) (i : ℕ) → SameNext g entry other_entry i → (r : measure.Result) → IsDueAt measure g entry i r → IsDueAt measure g other_entry i r
  due_stays entry other_entry i same r (inl mate) = inl mate
  due_stays entry other_entry i same r (inr (inl stuck)) = inr (inl stuck)
  due_stays entry other_entry i same r (inr (inr (next, best, is))) = inr (inr (next, record { next = there next best.next; best = λ other h. best.best other (back other h) }, is))
    where
      there : (r : measure.Result) → IsNext measure g entry i r → IsNext measure g other_entry i r
      there r (inl (j, has, is)) = inl (j, has, sym (same j has) ∙ is)
      there r (inr out) = inr out

      back : (r : measure.Result) → IsNext measure g other_entry i r → IsNext measure g entry i r
      back r (inl (j, has, is)) = inl (j, has, same j has ∙ is)
      back r (inr out) = inr out

  module _ (law : IsGame g) (entry : ℕ → ℕ) (are : AreDue measure g entry) where
    node_next : (i j : ℕ) → IsNode g i → Contains (g.out i) j → IsNode g j
    node_next i j node has = All-contains (IsNode g) (g.out i) j (law.out_nodes i node) has

    -- a node with a successor has a move and is not mated
    moves : (i : ℕ) (r : measure.Result) → IsNext measure g entry i r → has_move g i ≡ true
    moves i r h = grind (arith, not, not_empty, cases_Bool)

    unmated : (i : ℕ) (r : measure.Result) → IsNode g i → IsNext measure g entry i r → g.mated i ≡ true → ⊥
    unmated i r node h t = grind (arith, none_there)

    -- what an entry spells is due
    told : ((r s : measure.Result) → measure.spelt r ≡ measure.spelt s → r ≡ s) → (i : ℕ) → IsNode g i → (r : measure.Result) → entry i ≡ measure.spelt r → IsDueAt measure g entry i r
    told once i node r is =
        let (s, spells, due) = are.due i node in
        subst (IsDueAt measure g entry i) (once s r (sym spells ∙ is)) due

-- ---- the values

entry_once : (v w : Exit) → entry_of v ≡ entry_of w → v ≡ w
entry_once v w e = grind arith

abbrev plies : Exit → ℕ
plies (Win n) = n
plies (Loss n) = n
plies Draw = 0

one_less : (n k : ℕ) → suc n ≡ suc k → n ≡ k
one_less n k e = omega (arith, e)

module _ (g : Graph) (law : IsGame g) (entry : ℕ → ℕ) (are : AreDue values g entry) where
  abbrev Spells : ℕ → Exit → Type 0
  Spells i v = entry i ≡ entry_of v

  -- the entry of i is reached: its player mates, or is mated, within its number of plies
  record Reached (n : ℕ) : Type 0 where
    won : (i : ℕ) → IsNode g i → Spells i (Win n) → mates_within g n i ≡ true
    lost : (i : ℕ) → IsNode g i → Spells i (Loss n) → mated_within g n i ≡ true

  module _ (i : ℕ) (node : IsNode g i) where
    next_node : (j : ℕ) → Contains (g.out i) j → IsNode g j
    next_node j has = node_next values g law entry are i j node has

    -- by a lost successor
    wins_next : (n : ℕ) → Reached n → IsNext values g entry i (Loss n) → mates_within g (suc n) i ≡ true
    wins_next n reached (inl (j, has, is)) = or_left _ _ (contains_any (mated_within g n) (g.out i) j has (reached.lost j (next_node j has) is))
    wins_next n reached (inr (e, has, is)) =
        or_right (list_any (mated_within g n) (g.out i)) _ (contains_any (is_lost_before (suc n)) (g.exits i) e has (ap (is_lost_before (suc n)) is ∙ lt-ltb n (suc n) (omega arith)))

    won_at : (n : ℕ) → ((k : ℕ) → k < n → Reached k) → (next : Exit) → IsBest values g entry i next → Win n ≡ value_before next → mates_within g n i ≡ true
    won_at n before (Win k) best e = cc
    won_at n before Draw best e = cc
    won_at zero before (Loss k) best e = let none : 0 ≡ suc k = ap plies e in absurd (omega (arith, none))
    won_at (suc n) before (Loss k) best e =
        let same : n ≡ k = one_less n k (ap plies e) in
        wins_next n (before n (omega arith)) (subst (λ k. IsNext values g entry i (Loss k)) (sym same) best.next)

    -- where each successor is won
    out_won : (n : ℕ) → ((k : ℕ) → k < suc n → Reached k) → IsBest values g entry i (Win n) → (j : ℕ) → Contains (g.out i) j → mates_within g n j ≡ true
    out_won n before best j has =
        let (v, is, due) = are.due j (next_node j has) in
        of v is (best.best v (inl (j, has, is)))
      where
        of : (v : Exit) → entry j ≡ entry_of v → IsAsGood (Win n) v → mates_within g n j ≡ true
        of (Win k) is le = mates_le g j k n le ((before k (omega (arith, le))).won j (next_node j has) is)
        of v is le = grind arith

    exit_won : (n : ℕ) → IsBest values g entry i (Win n) → (e : Exit) → Contains (g.exits i) e → is_won_before (suc n) e ≡ true
    exit_won n best e has = of e (best.best e (inr (e, has, refl)))
      where
        of : (e : Exit) → IsAsGood (Win n) e → is_won_before (suc n) e ≡ true
        of (Win k) le = lt-ltb k (suc n) (omega (arith, le))
        of e le = grind arith

    lost_at : (n : ℕ) → ((k : ℕ) → k < n → Reached k) → (next : Exit) → IsBest values g entry i next → Loss n ≡ value_before next → mated_within g n i ≡ true
    lost_at n before (Loss k) best e = cc
    lost_at n before Draw best e = cc
    lost_at zero before (Win k) best e = let none : 0 ≡ suc k = ap plies e in absurd (omega (arith, none))
    lost_at (suc n) before (Win k) best e =
        let same : k ≡ n = sym (one_less n k (ap plies e)) in
        let all : IsBest values g entry i (Win n) = subst (λ k. IsBest values g entry i (Win k)) same best in
        or_right (g.mated i) _ (and_from _ _ (moves values g law entry are i (Win n) all.next)
        (and_from _ _ (contains_all (mates_within g n) (g.out i) (out_won n before all)) (contains_all (is_won_before (suc n)) (g.exits i) (exit_won n all))))

  reach : (n : ℕ) → ((k : ℕ) → k < n → Reached k) → Reached n
  reach n before = record {
    won = λ i node is. elim (told values g law entry are entry_once i node (Win n) is) [
      | inl mate ↦ let e = mate.1 in cc
      | inr (inl stuck) ↦ let e = stuck.2 in cc
      | inr (inr moved) ↦ won_at i node n before moved.0 moved.1 moved.2
    ];
    lost = λ i node is. elim (told values g law entry are entry_once i node (Loss n) is) [
      | inl mate ↦ mated_le g i 0 n (omega arith) mate.0
      | inr (inl stuck) ↦ let e = stuck.2 in cc
      | inr (inr moved) ↦ lost_at i node n before moved.0 moved.1 moved.2
    ];
  }

  reached_below : (m n : ℕ) → n < m → Reached n
  reached_below zero n lt = absurd (omega (arith, lt))
  reached_below (suc m) n lt = reach n (λ k less. reached_below m k (omega (arith, lt, less)))

  reached : (n : ℕ) → Reached n
  reached n = reached_below (suc n) n (omega arith)

  -- ---- nor is a mate sooner than the entry says

  abbrev Soon : (ℕ → Exit) → ℕ → ℕ → Type 0
  Soon kind n i = (k : ℕ) × (k ≤ n) × (entry i ≡ entry_of (kind k))

  -- with a successor that is lost in k plies
  soon_won : (i k : ℕ) → IsNode g i → IsNext values g entry i (Loss k) → Soon Win (suc k) i
  soon_won i k node next = elim (are.due i node).2 [
    | inl mate ↦ absurd (unmated values g law entry are i (Loss k) node next mate.0)
    | inr (inl stuck) ↦ absurd (both_ways (has_move g i) stuck.1 (moves values g law entry are i (Loss k) next))
    | inr (inr (best, is_best, is)) ↦ of best (is_best.best (Loss k) next) ((are.due i node).1 ∙ ap entry_of is)
  ]
    where
      of : (best : Exit) → IsAsGood best (Loss k) → entry i ≡ entry_of (value_before best) → Soon Win (suc k) i
      of (Loss n) le is = (suc n, omega (arith, le), is)
      of best le is = grind arith

  -- where each is won within n
  soon_lost : (i n : ℕ) → IsNode g i → has_move g i ≡ true → ((v : Exit) → IsNext values g entry i v → (k : ℕ) × (k ≤ n) × (v ≡ Win k)) → Soon Loss (suc n) i
  soon_lost i n node some each = elim (are.due i node).2 [
    | inl mate ↦ (0, omega arith, (are.due i node).1 ∙ ap entry_of mate.1)
    | inr (inl stuck) ↦ absurd (both_ways (has_move g i) stuck.1 some)
    | inr (inr (best, is_best, is)) ↦
        let (k, le, won) = each best is_best.next in
        (suc k, omega (arith, le), (are.due i node).1 ∙ ap entry_of (is ∙ ap value_before won))
  ]

  mated_soon : (i n : ℕ) → IsNode g i → g.mated i ≡ true → Soon Loss n i
  mated_soon i n node t = grind (arith, both_ways, values)

  record NoSooner (n : ℕ) : Type 0 where
    won : (i : ℕ) → IsNode g i → mates_within g n i ≡ true → Soon Win n i
    lost : (i : ℕ) → IsNode g i → mated_within g n i ≡ true → Soon Loss n i

  later_won : (i k n : ℕ) → k ≤ n → Soon Win (suc k) i → Soon Win (suc n) i
  later_won i k n le (m, less, is) = (m, omega (arith, le, less), is)

  won_exit : (n : ℕ) (e v : Exit) → e ≡ v → is_won_before (suc n) e ≡ true → (k : ℕ) × (k ≤ n) × (v ≡ Win k)
  won_exit n e v is t = grind (arith, ltb-true)

  module _ (n : ℕ) (before : NoSooner n) (i : ℕ) (node : IsNode g i) where
    by_exit : (e : Exit) → Contains (g.exits i) e → is_lost_before (suc n) e ≡ true → Soon Win (suc n) i
    by_exit (Loss k) has is = later_won i k n (let lt = ltb-true k (suc n) is in omega (arith, lt)) (soon_won i k node (inr (Loss k, has, refl)))
    by_exit e has is = grind arith

    sooner_won : mates_within g (suc n) i ≡ true → Soon Win (suc n) i
    sooner_won t = elim (or_cases (list_any (mated_within g n) (g.out i)) _ t) [
      | inl out ↦
          let (j, has, is) = any_contains (mated_within g n) (g.out i) out in
          let (k, le, spells) = before.lost j (node_next values g law entry are i j node has) is in
          later_won i k n le (soon_won i k node (inl (j, has, spells)))
      | inr exit ↦
          let (e, has, is) = any_contains (is_lost_before (suc n)) (g.exits i) exit in
          by_exit e has is
    ]

    each_won : list_all (mates_within g n) (g.out i) ≡ true → list_all (is_won_before (suc n)) (g.exits i) ≡ true → (v : Exit) → IsNext values g entry i v → (k : ℕ) × (k ≤ n) × (v ≡ Win k)
    each_won out exits v (inl (j, has, is)) =
        let (k, le, spells) = before.won j (node_next values g law entry are i j node has) (all_contains (mates_within g n) (g.out i) j out has) in
        (k, le, entry_once v (Win k) (sym is ∙ spells))
    each_won out exits v (inr (e, has, is)) = won_exit n e v is (all_contains (is_won_before (suc n)) (g.exits i) e exits has)

    sooner_lost : mated_within g (suc n) i ≡ true → Soon Loss (suc n) i
    sooner_lost t = elim (or_cases (g.mated i) _ t) [
      | inl mate ↦ mated_soon i (suc n) node mate
      | inr all ↦
          let (some, won) = and_parts (has_move g i) (list_all (mates_within g n) (g.out i) && list_all (is_won_before (suc n)) (g.exits i)) all in
          let (out, exits) = and_parts (list_all (mates_within g n) (g.out i)) (list_all (is_won_before (suc n)) (g.exits i)) won in
          soon_lost i n node some (each_won out exits)
    ]

  no_sooner : (n : ℕ) → NoSooner n
  no_sooner zero = record {
    won = λ i node t. absurd (false≢true t);
    lost = λ i node t. mated_soon i 0 node t;
  }
  no_sooner (suc n) = record { won = sooner_won n (no_sooner n); lost = sooner_lost n (no_sooner n) }

  -- ---- so the entry tell the values

  not_won : (i n : ℕ) → IsNode g i → (v : Exit) → Spells i v → ((k : ℕ) → k ≤ n → v ≡ Win k → ⊥) → mates_within g n i ≡ false
  not_won i n node v is other = false_from_ne_true _ (λ t. let (k, le, spells) = (no_sooner n).won i node t in other k le (entry_once v (Win k) (sym is ∙ spells)))

  not_lost : (i n : ℕ) → IsNode g i → (v : Exit) → Spells i v → ((k : ℕ) → k ≤ n → v ≡ Loss k → ⊥) → mated_within g n i ≡ false
  not_lost i n node v is other = false_from_ne_true _ (λ t. let (k, le, spells) = (no_sooner n).lost i node t in other k le (entry_once v (Loss k) (sym is ∙ spells)))

  less_plies : (n k : ℕ) → k ≤ n → suc n ≡ k → ⊥
  less_plies n k le e = omega (arith, le, e)

  pub entry_is_value : (i : ℕ) → IsNode g i → (v : Exit) → entry i ≡ entry_of v → HasRank g i v
  entry_is_value i node (Win zero) is = ((reached 0).won i node is, refl)
  entry_is_value i node (Win (suc n)) is = ((reached (suc n)).won i node is, not_won i n node (Win (suc n)) is (λ k le e. less_plies n k le (ap plies e)))
  entry_is_value i node (Loss zero) is = ((reached 0).lost i node is, refl)
  entry_is_value i node (Loss (suc n)) is = ((reached (suc n)).lost i node is, not_lost i n node (Loss (suc n)) is (λ k le e. less_plies n k le (ap plies e)))
  entry_is_value i node Draw is = λ n. (not_won i n node Draw is (λ k le e. cc), not_lost i n node Draw is (λ k le e. cc))

  deep : (limit i : ℕ) → IsNode g i → (v : Exit) → entry i ≡ entry_of v → 3 + 2 * limit < entry i → SomeAbove g limit
  deep limit i node (Win n) is past = (
    i,
    node,
    (n, or_left _ _ ((reached n).won i node is)),
    or_from _ _ (not_won i limit node (Win n) is (λ k le e. let same : n ≡ k = ap plies e in omega (arith, is, past, le, same))) (not_lost i limit node (Win n) is (λ k le e. cc)),
  )
  deep limit i node (Loss n) is past = (
    i,
    node,
    (n, or_right (mates_within g n i) _ ((reached n).lost i node is)),
    or_from _ _ (not_won i limit node (Loss n) is (λ k le e. cc)) (not_lost i limit node (Loss n) is (λ k le e. let same : n ≡ k = ap plies e in omega (arith, is, past, le, same))),
  )
  deep limit i node Draw is past = absurd (omega (arith, is, past))

  pub entries_are_as_deep : (limit i : ℕ) → IsNode g i → 3 + 2 * limit < entry i → SomeAbove g limit
  entries_are_as_deep limit i node past = let (v, is, due) = are.due i node in deep limit i node v is past

within_limit : (limit x : ℕ) (v : Exit) → x ≡ entry_of v → x ≤ 3 + 2 * limit → IsWithin limit v
within_limit limit x v is le = grind arith

pub entries_are_ranks : (g : Graph) → IsGame g → (entries : List ℕ) → length entries ≡ g.size → AreDue values g (slice_index entries) → (limit : ℕ) →
    ((i : ℕ) → IsNode g i → slice_index entries i ≤ 3 + 2 * limit) → AreRanks g limit entries
entries_are_ranks g law entries long are limit within = record {
  all = long;
  voids = are.voids;
  ranks = λ i node.
      let (v, is, due) = are.due i node in
      (v, entry_is_value g law (slice_index entries) are i node v is, within_limit limit (slice_index entries i) v is (within i node), is);
}

-- ---- the nearest mates

near_once : (x y : Option ℕ) → near_entry_of x ≡ near_entry_of y → x ≡ y
near_once (Some n) (Some k) e = ap Some (let same : n ≡ k = omega (arith, e) in same)
near_once x y e = grind arith

abbrev number : Option ℕ → ℕ
number (Some n) = n
number None = 0

near_exit_passes : (n k : ℕ) (e : Exit) → near_outside e ≡ Some k → k ≤ n → is_near_exit (suc n) e ≡ true
near_exit_passes n k h2 is le = grind (arith, lt-ltb)

near_exit_tells : (n : ℕ) (e : Exit) → is_near_exit (suc n) e ≡ true → (k : ℕ) × (k ≤ n) × (near_outside e ≡ Some k)
near_exit_tells n (Win k) t = (k, (let lt = ltb-true k (suc n) t in omega (arith, lt)), refl)
near_exit_tells n (Loss k) t = (k, (let lt = ltb-true k (suc n) t in omega (arith, lt)), refl)
near_exit_tells n Draw t = absurd (false≢true t)

module _ (g : Graph) (law : IsGame g) (entry : ℕ → ℕ) (are : AreDue nears g entry) where
  near_next : (n i : ℕ) → IsNode g i → ((j : ℕ) → IsNode g j → entry j ≡ near_entry_of (Some n) → near_within g n j ≡ true) → IsNext nears g entry i (Some n) → near_within g (suc n) i ≡ true
  near_next n i node there (inl (j, has, is)) = near_by_move g n i j has (there j (node_next nears g law entry are i j node has) is)
  near_next n i node there (inr (e, has, is)) = near_by_exit g n i (contains_any (is_near_exit (suc n)) (g.exits i) e has (near_exit_passes n n e is (omega arith)))

  near_at : (n i : ℕ) → IsNode g i → ((k : ℕ) → n ≡ suc k → IsNext nears g entry i (Some k) → near_within g n i ≡ true) → (next : Option ℕ) → IsBest nears g entry i next → Some n ≡ option_map suc next → near_within g n i ≡ true
  near_at n i node there (Some k) best e = there k (ap number e) best.next
  near_at n i node there None best e = cc

  near_reached : (n i : ℕ) → IsNode g i → entry i ≡ near_entry_of (Some n) → near_within g n i ≡ true
  near_reached zero i node is = elim (told nears g law entry are near_once i node (Some 0) is) [
    | inl mate ↦ mate.0
    | inr (inl stuck) ↦ let e = stuck.2 in cc
    | inr (inr moved) ↦ near_at 0 i node (λ k e next. absurd (omega (arith, e))) moved.0 moved.1 moved.2
  ]
  near_reached (suc n) i node is = elim (told nears g law entry are near_once i node (Some (suc n)) is) [
    | inl mate ↦ or_left _ _ mate.0
    | inr (inl stuck) ↦ let e = stuck.2 in cc
    | inr (inr moved) ↦
        near_at (suc n) i node
        (λ k e next. near_next n i node (near_reached n) (subst (λ k. IsNext nears g entry i (Some k)) (sym (one_less n k e)) next))
        moved.0 moved.1 moved.2
  ]

  abbrev Nearby : ℕ → ℕ → Type 0
  Nearby n i = (k : ℕ) × (k ≤ n) × (entry i ≡ near_entry_of (Some k))

  soon_near : (i k n : ℕ) → k ≤ n → IsNode g i → IsNext nears g entry i (Some k) → Nearby (suc n) i
  soon_near i k n le node next = elim (are.due i node).2 [
    | inl mate ↦ absurd (unmated nears g law entry are i (Some k) node next mate.0)
    | inr (inl stuck) ↦ absurd (both_ways (has_move g i) stuck.1 (moves nears g law entry are i (Some k) next))
    | inr (inr (best, is_best, is)) ↦ of best (is_best.best (Some k) next) ((are.due i node).1 ∙ ap near_entry_of is)
  ]
    where
      of : (best : Option ℕ) → IsAsNear best (Some k) → entry i ≡ near_entry_of (option_map suc best) → Nearby (suc n) i
      of (Some m) less is = (suc m, omega (arith, le, less), is)
      of None less is = absurd less

  mated_near : (i n : ℕ) → IsNode g i → g.mated i ≡ true → Nearby n i
  mated_near i n node t = elim (are.due i node).2 [
    | inl mate ↦ (0, omega arith, (are.due i node).1 ∙ ap near_entry_of mate.1)
    | inr (inl stuck) ↦ absurd (both_ways (g.mated i) stuck.0 t)
    | inr (inr (best, is_best, is)) ↦ absurd (unmated nears g law entry are i best node is_best.next t)
  ]

  no_nearer : (n i : ℕ) → IsNode g i → near_within g n i ≡ true → Nearby n i
  no_nearer zero i node t = mated_near i 0 node t
  no_nearer (suc n) i node t = elim (or_cases (g.mated i) _ t) [
    | inl mate ↦ mated_near i (suc n) node mate
    | inr some ↦ elim (or_cases (list_any (near_within g n) (g.out i)) _ some) [
      | inl out ↦
          let (j, has, is) = any_contains (near_within g n) (g.out i) out in
          let (k, le, spells) = no_nearer n j (node_next nears g law entry are i j node has) is in
          soon_near i k n le node (inl (j, has, spells))
      | inr exit ↦
          let (e, has, is) = any_contains (is_near_exit (suc n)) (g.exits i) exit in
          let (k, le, tells) = near_exit_tells n e is in
          soon_near i k n le node (inr (e, has, tells))
    ]
  ]

  not_near : (i n : ℕ) → IsNode g i → (x : Option ℕ) → entry i ≡ near_entry_of x → ((k : ℕ) → k ≤ n → x ≡ Some k → ⊥) → near_within g n i ≡ false
  not_near i n node x is other = false_from_ne_true _ (λ t. let (k, le, spells) = no_nearer n i node t in other k le (near_once x (Some k) (sym is ∙ spells)))

  pub entry_is_number : (i : ℕ) → IsNode g i → (x : Option ℕ) → entry i ≡ near_entry_of x → HasNear g i x
  entry_is_number i node (Some zero) is = (near_reached 0 i node is, refl)
  entry_is_number i node (Some (suc n)) is = (near_reached (suc n) i node is, not_near i n node (Some (suc n)) is (λ k le e. let same : suc n ≡ k = ap number e in omega (arith, le, same)))
  entry_is_number i node None is = λ n. not_near i n node None is (λ k le e. cc)

  far : (i : ℕ) → IsNode g i → (x : Option ℕ) → entry i ≡ near_entry_of x → 32002 < entry i → SomeFar g
  far i node (Some n) is past = (i, node, (n, near_reached n i node is), not_near i 32000 node (Some n) is (λ k le e. let same : n ≡ k = ap number e in omega (arith, is, past, le, same)))
  far i node None is past = absurd (omega (arith, is, past))

  pub entries_are_as_far : (i : ℕ) → IsNode g i → 32002 < entry i → SomeFar g
  entries_are_as_far i node past = let (x, is, due) = are.due i node in far i node x is past

short : (x : Option ℕ) (n : ℕ) → n ≡ near_entry_of x → n ≤ 32002 → IsShort x
short x n is le = grind arith

pub entries_are_nears : (g : Graph) → IsGame g → (entries : List ℕ) → length entries ≡ g.size → AreDue nears g (slice_index entries) →
    ((i : ℕ) → IsNode g i → slice_index entries i ≤ 32002) → AreNears g entries
entries_are_nears g law entries long are within = record {
  all = long;
  voids = are.voids;
  nears = λ i node.
      let (x, is, due) = are.due i node in
      (x, entry_is_number g law (slice_index entries) are i node x is, short x (slice_index entries i) is (within i node), is);
}
