-- When a run is over: no node is open once a round is closed exactly where no node has a rank above it.
use Rattle.std.proofs.Common.{◌≡◌, ◌≢◌, ℕ, zero, suc, ◌+◌, ◌*◌, ◌<◌, ◌≤◌, Bool, true, false, cond, not, ◌&&◌, ◌||◌, eqb}
use Rattle.std.proofs.Common.{ltb, List, [], ◌∷◌, slice_index, refl, sym, ap, ap₂, ◌∙◌, inl, inr, ◌⊎◌, ⊎_elim, arith}
use Rattle.std.proofs.Common.{count_by, IsTrue}
use Rattle.std.specs.List.{list_any, list_all}
use Rattle.std.proofs.lemmas.Bool.{false≢true, cases_Bool, eq-eqb, ne_eqb, eqb-true, eqb-false, both_ways, or_cases}
use Rattle.std.proofs.lemmas.Bool.{or_left, or_right, or_parts, or_from, and_parts, and_from, lt-ltb, le-ltb, le-leb}
use Rattle.std.proofs.lemmas.Bool.{lt-leb, ltb-true, cases_order, false_from_ne_true}
use Rattle.egt_graph.specs.Graph.{Graph, IsNode, IsGame, HasShortDistance}
use Rattle.egt_graph.specs.Value.{is_empty, has_move, is_lost_before, is_won_before, mated_within, mates_within}
use Rattle.egt_graph.specs.Value.{decided_within, SomeAbove, NoneAbove}
use Rattle.egt_graph.specs.Frontier.{is_node, is_entry_of_round}
use Rattle.egt_graph.specs.Columns.{outs, leaves, has_moves, entry_at, waits_at, later_at, is_win_from, is_loss}
use Rattle.egt_graph.specs.Columns.{is_open, is_open_at, Await}
use Rattle.egt_graph.specs.declared.game.Exit.{Exit}
use Rattle.egt_graph.specs.declared.game.Exit.TheVariants.{Win, Loss, Draw}
use Rattle.egt_graph.proofs.Lists.{all_weaker, all_weaker_on, any_weaker, any_weaker_on, count_same, count_same_on}
use Rattle.egt_graph.proofs.Lists.{count_split, none_fails}
use Rattle.egt_graph.proofs.Values.{never_both_ever, mates_le, mated_le, mates_more, mated_more}
use Rattle.egt_graph.proofs.Nodes.{test_from_node, node_from_test, outs_at, leaves_at, outs_are_nodes}
use Rattle.egt_graph.proofs.Exits.{left_has_moves}
use Rattle.egt_graph.proofs.Closing.{entry_none, win_known_all}
use Rattle.egt_graph.proofs.Ranking.{spelled, Spells}

-- ---- exits

abbrev is_no_win : Exit → Bool
is_no_win (Win k) = false
is_no_win (Loss k) = true
is_no_win Draw = true

waited : (n : ℕ) (e : Exit) → cond (not (is_won_before n e)) 1 0 ≡ cond (is_win_from n e) 1 0 + cond (is_no_win e) 1 0
waited n (Loss k) = refl
waited n Draw = refl
waited n (Win k) = elim (cases_order k n) [
  | inl e ↦ rw (le-ltb k n (omega arith), le-leb n k (omega arith)) refl
  | inr o ↦ elim o [
    | inl lt ↦ rw (lt-ltb k n lt, lt-leb n k lt) refl
    | inr gt ↦ rw (le-ltb k n (omega arith), le-leb n k (omega arith)) refl
  ]
]

lost_is_loss : (n : ℕ) (e : Exit) → is_lost_before n e ≡ true → is_loss e ≡ true
lost_is_loss n e h = grind arith

won_is_win : (n : ℕ) (e : Exit) → is_won_before n e ≡ true → not (is_no_win e) ≡ true
won_is_win n e h = grind arith

short_win : (r : ℕ) (e : Exit) → HasShortDistance e → not (is_no_win e) ≡ true → is_won_before (suc (r + 32000)) e ≡ true
short_win r e s h = grind (arith, lt-ltb)

-- a lost exit makes a win sooner or later
some_loss : (xs : List Exit) → list_any is_loss xs ≡ true → (k : ℕ) × (list_any (is_lost_before (suc k)) xs ≡ true)
some_loss [] h = absurd (false≢true h)
some_loss (Win k ∷ xs) h = let s = some_loss xs h in (s.0, s.1)
some_loss (Loss k ∷ xs) h = (k, or_left _ _ (lt-ltb k (suc k) (omega arith)))
some_loss (Draw ∷ xs) h = let s = some_loss xs h in (s.0, s.1)

-- ---- a node waits for the moves that do not win within r, and for the exits that do not

waits_closed : (g : Graph) → IsGame g → (r : ℕ) (done : ℕ → Bool) → ((j : ℕ) → IsNode g j → done j ≡ true) → (n i : ℕ) → IsNode g i
    → waits_at g r done n i ≡ count_by (λ j. not (mates_within g r j)) (g.out i) + count_by (λ e. not (is_won_before n e)) (g.exits i)
waits_closed g law r done all n i node =
    let t = test_from_node g i node in
    ap₂ (λ a b. a + b)
    (count_same_on (IsNode g) _ _ (λ j q. ap not (win_known_all g r done j (all j q))) (outs g i) (outs_are_nodes g law i) ∙ ap (count_by (λ j. not (mates_within g r j))) (outs_at g i t))
    (ap (count_by (λ e. not (is_won_before n e))) (leaves_at g i t))

later_of : (g : Graph) (n i : ℕ) → IsNode g i → later_at g n i ≡ count_by (is_win_from n) (g.exits i)
later_of g n i node = ap (count_by (is_win_from n)) (leaves_at g i (test_from_node g i node))

-- the columns when round r is closed, at n, the round after it
pub record IsClosed (g : Graph) (r : ℕ) (done : ℕ → Bool) (n : ℕ) (es ws ls : List ℕ) (fs : List Bool) : Type 0 where
  pub entry : (i : ℕ) → slice_index es i ≡ entry_at g n i
  pub waiting : (i : ℕ) → slice_index ws i ≡ waits_at g r done n i
  pub exits : Await g n ls fs

open_test : (g : Graph) (r : ℕ) (done : ℕ → Bool) (n : ℕ) (es ws ls : List ℕ) (fs : List Bool) → IsClosed g r done n es ws ls fs → (i : ℕ)
    → is_open_at n es ws ls fs i ≡ is_open n (entry_at g n i) (waits_at g r done n i) (later_at g n i) (list_any is_loss (leaves g i))
open_test g r done n es ws ls fs h i = grind (arith, entry_at)

-- ---- a node that is open has, or will have, a rank above r

not_yet : (g : Graph) (r i : ℕ) → mates_within g (suc r) i ≡ false → mated_within g (suc r) i ≡ false → decided_within g r i ≡ false
not_yet g r i a b = or_from _ _ (false_from_ne_true _ (λ t. both_ways _ a (mates_more g r i t))) (false_from_ne_true _ (λ t. both_ways _ b (mated_more g r i t)))

all_waits_are_wins : (a b c l : ℕ) → a + b ≡ l → b ≡ l + c → (a ≡ 0) × (c ≡ 0)
all_waits_are_wins a b c l p q = (omega arith, omega arith)

twice : (b : Bool) → not (not b) ≡ b
twice b = grind arith

twice_not : (xs : List Exit) → count_by (λ e. not (not (is_no_win e))) xs ≡ count_by is_no_win xs
twice_not xs = count_same _ _ (λ e. twice (is_no_win e)) xs

settled : (w l a b c z : ℕ) → w ≡ a + b → l ≡ c → b ≡ c + z → a ≡ 0 → z ≡ 0 → b ≢ 0 → (0 < w) × (w ≡ l)
settled w l a b c z p q r s t n = (omega arith, omega arith)

mated_later : (g : Graph) → IsGame g → (r : ℕ) (done : ℕ → Bool) → ((j : ℕ) → IsNode g j → done j ≡ true) → (i : ℕ) → IsNode g i
    → 0 < waits_at g r done (suc r) i → waits_at g r done (suc r) i ≡ later_at g (suc r) i → mated_within g (suc (r + 32000)) i ≡ true
mated_later g law r done all i node some same =
    let t = test_from_node g i node in
    let w = waits_closed g law r done all (suc r) i node in
    let l = later_of g (suc r) i node in
    let s = count_split _ _ is_no_win (waited (suc r)) (g.exits i) in
    let z = all_waits_are_wins _ _ _ _ (sym w ∙ same ∙ l) s in
    let moves : has_moves g i ≡ true = left_has_moves g (is_win_from (suc r)) i (omega arith) in
    or_right (g.mated i) _ (and_from _ _
    (sym (ap₂ (λ a b. not (is_empty a && is_empty b)) (outs_at g i t) (leaves_at g i t)) ∙ moves)
    (and_from _ _
    (all_weaker (mates_within g r) (mates_within g (r + 32000)) (λ j. mates_le g j r (r + 32000) (omega arith)) (g.out i)
    (sym (none_fails (mates_within g r) (g.out i)) ∙ eq-eqb _ 0 z.0))
    (all_weaker_on HasShortDistance (λ e. not (is_no_win e)) (is_won_before (suc (r + 32000))) (λ e. short_win r e) (g.exits i) (law.short_exits i node)
    (sym (none_fails (λ e. not (is_no_win e)) (g.exits i)) ∙ ap (λ k. eqb k 0) (twice_not (g.exits i)) ∙ eq-eqb _ 0 z.1))))

pub of_round_win : (n m : ℕ) → is_entry_of_round m (2 + 2 * n) ≡ true → n ≡ m
of_round_win n m h = grind (arith, or_cases, eqb-true)

pub of_round_loss : (n m : ℕ) → is_entry_of_round m (3 + 2 * n) ≡ true → n ≡ m
of_round_loss n m h = grind (arith, or_cases, eqb-true)

pub draw_of_no_round : (m : ℕ) → is_entry_of_round m 1 ≡ false
draw_of_no_round m = or_from _ _ (ne_eqb 1 (2 + 2 * m) (λ e. absurd (omega arith))) (ne_eqb 1 (3 + 2 * m) (λ e. absurd (omega arith)))

pub void_of_no_round : (m : ℕ) → is_entry_of_round m 0 ≡ false
void_of_no_round m = or_from _ _ (ne_eqb 0 (2 + 2 * m) (λ e. absurd (omega arith))) (ne_eqb 0 (3 + 2 * m) (λ e. absurd (omega arith)))

open_win : (n m w l : ℕ) (f : Bool) → is_open m (2 + 2 * n) w l f ≡ true → n ≡ m
open_win n m w l f h = ⊎_elim (of_round_win n m) (λ b. let e = eqb-true (2 + 2 * n) 1 (and_parts (eqb (2 + 2 * n) 1) (f || (ltb 0 w && eqb w l)) b).0 in absurd (omega arith)) (or_cases (is_entry_of_round m (2 + 2 * n)) _ h)

open_loss : (n m w l : ℕ) (f : Bool) → is_open m (3 + 2 * n) w l f ≡ true → n ≡ m
open_loss n m w l f h = ⊎_elim (of_round_loss n m) (λ b. let e = eqb-true (3 + 2 * n) 1 (and_parts (eqb (3 + 2 * n) 1) (f || (ltb 0 w && eqb w l)) b).0 in absurd (omega arith)) (or_cases (is_entry_of_round m (3 + 2 * n)) _ h)

open_draw : (m w l : ℕ) (f : Bool) → is_open m 1 w l f ≡ true → (f ≡ true) ⊎ ((0 < w) × (w ≡ l))
open_draw m w l f h = grind (arith, both_ways, draw_of_no_round, and_parts, ltb, eqb, ltb-true, eqb-true, or_cases, is_entry_of_round)

above : (g : Graph) → IsGame g → (r : ℕ) (done : ℕ → Bool) → ((j : ℕ) → IsNode g j → done j ≡ true) → (i : ℕ) → IsNode g i
    → (v : Exit) → Spells g (suc r) i v
    → is_open (suc r) (entry_at g (suc r) i) (waits_at g r done (suc r) i) (later_at g (suc r) i) (list_any is_loss (leaves g i)) ≡ true → SomeAbove g r
above g law r done all i node (Win n) s h =
    let e = open_win n (suc r) (waits_at g r done (suc r) i) (later_at g (suc r) i) (list_any is_loss (leaves g i)) (rw s.entry at h) in
    let k : (mates_within g (suc r) i ≡ true) × (mates_within g r i ≡ false) = rw e at s.known in
    (i, node, (suc r, or_left _ _ k.0), or_from _ _ k.1 (false_from_ne_true _ (λ t. never_both_ever g law (suc r) r i node k.0 t)))
above g law r done all i node (Loss n) s h =
    let e = open_loss n (suc r) (waits_at g r done (suc r) i) (later_at g (suc r) i) (list_any is_loss (leaves g i)) (rw s.entry at h) in
    let k : (mated_within g (suc r) i ≡ true) × (mated_within g r i ≡ false) = rw e at s.known in
    (i, node, (suc r, or_right (mates_within g (suc r) i) _ k.0), or_from _ _ (false_from_ne_true _ (λ t. never_both_ever g law r (suc r) i node t k.0)) k.1)
above g law r done all i node Draw s h =
    (i, node, sooner_or_later, not_yet g r i s.known.0 s.known.1)
  where
    sooner_or_later : (m : ℕ) × IsTrue (decided_within g m i)
    sooner_or_later = ⊎_elim
        (λ f. let k = some_loss (g.exits i) (sym (ap (list_any is_loss) (leaves_at g i (test_from_node g i node))) ∙ f) in
        (suc k.0, or_left _ _ (or_right (list_any (mated_within g k.0) (g.out i)) _ k.1)))
        (λ w. (suc (r + 32000), or_right (mates_within g (suc (r + 32000)) i) _ (mated_later g law r done all i node w.0 w.1)))
        (open_draw (suc r) (waits_at g r done (suc r) i) (later_at g (suc r) i) (list_any is_loss (leaves g i)) (rw s.entry at h))

open_none : (m w l : ℕ) (f : Bool) → is_open m 0 w l f ≡ true → ⊥
open_none m w l f h = ⊎_elim (both_ways _ (void_of_no_round m)) (λ b. false≢true b) (or_cases (is_entry_of_round m 0) _ h)

pub some_above : (g : Graph) → IsGame g → (r : ℕ) (done : ℕ → Bool) → ((j : ℕ) → IsNode g j → done j ≡ true)
    → (es ws ls : List ℕ) (fs : List Bool) (n : ℕ) → n ≡ suc r → IsClosed g r done n es ws ls fs → (i : ℕ) → is_open_at n es ws ls fs i ≡ true → SomeAbove g r
some_above g law r done all es ws ls fs n e h i is =
    let o = rw e at (sym (open_test g r done n es ws ls fs h i) ∙ is) in
    elim (cases_Bool (is_node g i)) [
      | inl t ↦ let node = node_from_test g i t in let s = spelled g i node (suc r) in above g law r done all i node s.0 s.1 o
      | inr f ↦ absurd (open_none (suc r) (waits_at g r done (suc r) i) (later_at g (suc r) i) (list_any is_loss (leaves g i)) (rw (entry_none g (suc r) i f) at o))
    ]

-- ---- where no node is open, none has a rank above r

less_of : (n r : ℕ) → (n < suc r) ⊎ (suc r < n) → n ≤ suc r → n ≤ r
less_of n r h b = grind arith

now_or_never : (g : Graph) (r : ℕ) (i : ℕ) (w l : ℕ) (f : Bool) (v : Exit) → Spells g (suc r) i v → is_open (suc r) (entry_at g (suc r) i) w l f ≡ false
    → (decided_within g r i ≡ true) ⊎ ((mates_within g (suc r) i ≡ false) × (mated_within g (suc r) i ≡ false) × (is_open (suc r) 1 w l f ≡ false))
now_or_never g r i w l f (Win n) s h = elim (cases_order n (suc r)) [
  | inl e ↦ absurd (both_ways _ (or_parts (is_entry_of_round (suc r) (2 + 2 * n)) _ (rw s.entry at h)).0 (or_left _ _ (eq-eqb (2 + 2 * n) (2 + 2 * suc r) (ap (λ k. 2 + 2 * k) e))))
  | inr o ↦ let le : n ≤ suc r = s.within in inl (or_left _ _ (mates_le g i n r (less_of n r o le) s.known.0))
]
now_or_never g r i w l f (Loss n) s h = elim (cases_order n (suc r)) [
  | inl e ↦ absurd (both_ways _ (or_parts (is_entry_of_round (suc r) (3 + 2 * n)) _ (rw s.entry at h)).0 (or_right (eqb (3 + 2 * n) (2 + 2 * suc r)) _ (eq-eqb (3 + 2 * n) (3 + 2 * suc r) (ap (λ k. 3 + 2 * k) e))))
  | inr o ↦ let le : n ≤ suc r = s.within in inl (or_right (mates_within g r i) _ (mated_le g i n r (less_of n r o le) s.known.0))
]
now_or_never g r i w l f Draw s h = inr (s.known.0, s.known.1, rw s.entry at h)

-- one ply more decides nothing new, where none of m plies does
no_more : (g : Graph) → IsGame g → (r : ℕ) (done : ℕ → Bool) → ((j : ℕ) → IsNode g j → done j ≡ true)
    → ((i : ℕ) → IsNode g i → is_open (suc r) (entry_at g (suc r) i) (waits_at g r done (suc r) i) (later_at g (suc r) i) (list_any is_loss (leaves g i)) ≡ false)
    → (m : ℕ) → ((j : ℕ) → IsNode g j → decided_within g m j ≡ true → decided_within g r j ≡ true)
    → (i : ℕ) → IsNode g i → decided_within g (suc m) i ≡ true → decided_within g r i ≡ true
no_more g law r done all shut m before i node h =
    let s = spelled g i node (suc r) in
    ⊎_elim (λ d. d) (λ u. absurd (⊎_elim (wins u) (loses u) (or_cases (mates_within g (suc m) i) (mated_within g (suc m) i) h)))
    (now_or_never g r i (waits_at g r done (suc r) i) (later_at g (suc r) i) (list_any is_loss (leaves g i)) s.0 s.1 (shut i node))
  where
    Undecided : Type 0
    Undecided = (mates_within g (suc r) i ≡ false) × (mated_within g (suc r) i ≡ false) × (is_open (suc r) 1 (waits_at g r done (suc r) i) (later_at g (suc r) i) (list_any is_loss (leaves g i)) ≡ false)

    found_lost : (j : ℕ) → IsNode g j → mated_within g m j ≡ true → mated_within g r j ≡ true
    found_lost j q t = ⊎_elim (λ a. absurd (never_both_ever g law r m j q a t)) (λ b. b)
        (or_cases (mates_within g r j) (mated_within g r j) (before j q (or_right (mates_within g m j) _ t)))

    found_won : (j : ℕ) → IsNode g j → mates_within g m j ≡ true → mates_within g r j ≡ true
    found_won j q t = ⊎_elim (λ a. a) (λ b. absurd (never_both_ever g law m r j q t b))
        (or_cases (mates_within g r j) (mated_within g r j) (before j q (or_left _ _ t)))

    hopeless : Undecided → (list_any is_loss (leaves g i) || (ltb 0 (waits_at g r done (suc r) i) && eqb (waits_at g r done (suc r) i) (later_at g (suc r) i))) ≡ false
    hopeless u = (or_parts (is_entry_of_round (suc r) 1) _ u.2).1

    wins : Undecided → mates_within g (suc m) i ≡ true → ⊥
    wins u t = ⊎_elim
        (λ a. both_ways _ u.0 (or_left _ _ (any_weaker_on (IsNode g) (mated_within g m) (mated_within g r) found_lost (g.out i) (law.out_nodes i node) a)))
        (λ b. both_ways _ (or_parts (list_any is_loss (leaves g i)) _ (hopeless u)).0
        (ap (list_any is_loss) (leaves_at g i (test_from_node g i node)) ∙ any_weaker (is_lost_before (suc m)) is_loss (lost_is_loss (suc m)) (g.exits i) b))
        (or_cases (list_any (mated_within g m) (g.out i)) _ t)

    loses : Undecided → mated_within g (suc m) i ≡ true → ⊥
    loses u t = ⊎_elim
        (λ a. both_ways _ u.1 (or_left _ _ a))
        (λ b.
        let p = and_parts (has_move g i) (list_all (mates_within g m) (g.out i) && list_all (is_won_before (suc m)) (g.exits i)) b in
        let q = and_parts (list_all (mates_within g m) (g.out i)) (list_all (is_won_before (suc m)) (g.exits i)) p.1 in
        stuck u p.0 (all_weaker_on (IsNode g) (mates_within g m) (mates_within g r) found_won (g.out i) (law.out_nodes i node) q.0)
        (all_weaker (is_won_before (suc m)) (λ e. not (is_no_win e)) (won_is_win (suc m)) (g.exits i) q.1))
        (or_cases (g.mated i) _ t)
      where
        stuck : Undecided → has_move g i ≡ true → list_all (mates_within g r) (g.out i) ≡ true → list_all (λ e. not (is_no_win e)) (g.exits i) ≡ true → ⊥
        stuck u moves won wins =
            let w = waits_closed g law r done all (suc r) i node in
            let l = later_of g (suc r) i node in
            let c = count_split _ _ is_no_win (waited (suc r)) (g.exits i) in
            let a = eqb-true _ 0 (none_fails (mates_within g r) (g.out i) ∙ won) in
            let z = eqb-true _ 0 (none_fails (λ e. not (is_no_win e)) (g.exits i) ∙ wins) in
            let t = twice_not (g.exits i) in
            let f : list_all (is_won_before (suc r)) (g.exits i) ≡ false = false_from_ne_true _ (λ y. both_ways _ u.1 (or_right (g.mated i) _ (and_from _ _ moves (and_from _ _ won y)))) in
            let some = eqb-false _ 0 (none_fails (is_won_before (suc r)) (g.exits i) ∙ f) in
            let h = or_parts (list_any is_loss (leaves g i)) _ (hopeless u) in
            let sum = settled _ _ _ _ _ _ w l c a (sym t ∙ z) some in
            both_ways _ h.1 (and_from _ _ (lt-ltb 0 (waits_at g r done (suc r) i) sum.0) (eq-eqb (waits_at g r done (suc r) i) (later_at g (suc r) i) sum.1))

none_above : (g : Graph) → IsGame g → (r : ℕ) (done : ℕ → Bool) → ((j : ℕ) → IsNode g j → done j ≡ true)
    → ((i : ℕ) → IsNode g i → is_open (suc r) (entry_at g (suc r) i) (waits_at g r done (suc r) i) (later_at g (suc r) i) (list_any is_loss (leaves g i)) ≡ false)
    → (m i : ℕ) → IsNode g i → decided_within g m i ≡ true → decided_within g r i ≡ true
none_above g law r done all shut zero i node h = or_right (mates_within g r i) _ (mated_le g i 0 r (omega arith) h)
none_above g law r done all shut (suc m) i node h = no_more g law r done all shut m (none_above g law r done all shut m) i node h

pub none_open : (g : Graph) → IsGame g → (r : ℕ) (done : ℕ → Bool) → ((j : ℕ) → IsNode g j → done j ≡ true)
    → (es ws ls : List ℕ) (fs : List Bool) (n : ℕ) → n ≡ suc r → IsClosed g r done n es ws ls fs
    → ((i : ℕ) → i < g.size → is_open_at n es ws ls fs i ≡ false) → NoneAbove g r
none_open g law r done all es ws ls fs n e h shut i node m d =
    none_above g law r done all (λ k q. rw e at (sym (open_test g r done n es ws ls fs h k) ∙ shut k q.in_range)) m i node d
