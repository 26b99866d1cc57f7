-- From one round to the next.
use Rattle.std.proofs.Common.{◌≡◌, ℕ, zero, suc, ◌+◌, Bool, true, false, cond, not, ◌&&◌, ◌||◌, eqb, List, slice_index}
use Rattle.std.proofs.Common.{sym, ap, ap₂, ◌∙◌, inl, inr, arith, count_by}
use Rattle.egt_graph.specs.Prelude.{list_any, list_all, cases_Bool, ne_eqb, Graph, IsNode, IsGame, is_empty, has_move}
use Rattle.egt_graph.specs.Prelude.{is_lost_before, is_won_before, mated_within, mates_within, mated_before}
use Rattle.egt_graph.specs.Prelude.{mates_before, is_node, outs, leaves, has_moves, decided, entry_at, is_known_win}
use Rattle.egt_graph.specs.Prelude.{is_known_loss, waits_at, is_winning, Hold, Amid}
use Rattle.egt_graph.proofs.Lists.{any_same_on, count_same_on, none_fails}
use Rattle.egt_graph.proofs.Values.{mates_before_within, mated_before_within}
use Rattle.egt_graph.proofs.Nodes.{outs_at, leaves_at, outs_are_nodes}
use Rattle.egt_graph.proofs.Holding.{decided_shut, decided_again}

known_all : (b w t : Bool) → (b ≡ true → w ≡ true) → t ≡ true → (b || (w && t)) ≡ w
known_all b w t h e = grind arith

known_none : (b w t : Bool) → t ≡ false → (b || (w && t)) ≡ b
known_none b w t e = grind arith

pub win_known_all : (g : Graph) (r : ℕ) (done : ℕ → Bool) (j : ℕ) → done j ≡ true → is_known_win g r done j ≡ mates_within g r j
win_known_all g r done j h = known_all (mates_before g r j) (mates_within g r j) (done j) (mates_before_within g r j) h

pub loss_known_all : (g : Graph) (r : ℕ) (done : ℕ → Bool) (j : ℕ) → done j ≡ true → is_known_loss g r done j ≡ mated_within g r j
loss_known_all g r done j h = known_all (mated_before g r j) (mated_within g r j) (done j) (mated_before_within g r j) h

pub entry_none : (g : Graph) (r i : ℕ) → is_node g i ≡ false → entry_at g r i ≡ 0
entry_none g zero i h = ap (λ b. cond b (cond (g.mated i) 3 1) 0) h
entry_none g (suc r) i h =
    let e = entry_none g r i h in
    decided_shut (entry_at g r i) (suc r) _ _ (ne_eqb (entry_at g r i) 1 (λ q. absurd (omega arith))) ∙ e

pub entry_mated : (g : Graph) (r i : ℕ) → is_node g i ≡ true → g.mated i ≡ true → entry_at g r i ≡ 3
entry_mated g zero i h m = ap₂ (λ b c. cond b (cond c 3 1) 0) h m
entry_mated g (suc r) i h m =
    let e = entry_mated g r i h m in
    decided_shut (entry_at g r i) (suc r) _ _ (ne_eqb (entry_at g r i) 1 (λ q. absurd (omega arith))) ∙ e

sum_is_none : (a b : ℕ) → eqb (a + b) 0 ≡ (eqb a 0 && eqb b 0)
sum_is_none a b = grind (arith, ne_eqb)

-- with the whole round done, a move wins where it would win in one ply more
pub all_winning : (g : Graph) → IsGame g → (r : ℕ) (done : ℕ → Bool) → ((j : ℕ) → IsNode g j → done j ≡ true)
    → (i : ℕ) → is_node g i ≡ true → is_winning g r done (suc r) i ≡ mates_within g (suc r) i
all_winning g law r done all i t =
    ap₂ (λ a b. a || b)
    (any_same_on (IsNode g) _ _ (λ j node. loss_known_all g r done j (all j node)) (outs g i) (outs_are_nodes g law i) ∙ ap (list_any (mated_within g r)) (outs_at g i t))
    (ap (list_any (is_lost_before (suc r))) (leaves_at g i t))

-- and a node has nothing to wait for where it is mated in one ply more
pub all_lost : (g : Graph) → IsGame g → (r : ℕ) (done : ℕ → Bool) → ((j : ℕ) → IsNode g j → done j ≡ true)
    → (i : ℕ) → is_node g i ≡ true → (has_moves g i && eqb (waits_at g r done (suc r) i) 0)
    ≡ (has_move g i && (list_all (mates_within g r) (g.out i) && list_all (is_won_before (suc r)) (g.exits i)))
all_lost g law r done all i t =
    ap₂ (λ a b. not (is_empty a && is_empty b) && eqb (waits_at g r done (suc r) i) 0) (outs_at g i t) (leaves_at g i t)
    ∙ ap (λ b. has_move g i && b)
    (sum_is_none (count_by (λ j. not (is_known_win g r done j)) (outs g i)) (count_by (λ e. not (is_won_before (suc r) e)) (leaves g i))
    ∙ ap₂ (λ a b. a && b)
    (ap (λ n. eqb n 0) (count_same_on (IsNode g) _ _ (λ j node. ap not (win_known_all g r done j (all j node))) (outs g i) (outs_are_nodes g law i))
    ∙ none_fails (mates_within g r) (outs g i) ∙ ap (list_all (mates_within g r)) (outs_at g i t))
    (none_fails (is_won_before (suc r)) (leaves g i) ∙ ap (list_all (is_won_before (suc r))) (leaves_at g i t)))

-- the entries once the round is closed
pub entry_next : (g : Graph) → IsGame g → (r : ℕ) (done : ℕ → Bool) → ((j : ℕ) → IsNode g j → done j ≡ true)
    → (i : ℕ) → decided (entry_at g r i) (is_winning g r done (suc r) i) (has_moves g i && eqb (waits_at g r done (suc r) i) 0) (suc r) ≡ entry_at g (suc r) i
entry_next g law r done all i = elim (cases_Bool (is_node g i)) [
  | inr f ↦ let e = entry_none g r i f in
      decided_shut (entry_at g r i) (suc r) _ _ (ne_eqb (entry_at g r i) 1 (λ q. absurd (omega arith))) ∙ e ∙ sym (entry_none g (suc r) i f)
  | inl t ↦ elim (cases_Bool (g.mated i)) [
    | inl m ↦ let e = entry_mated g r i t m in
        decided_shut (entry_at g r i) (suc r) _ _ (ne_eqb (entry_at g r i) 1 (λ q. absurd (omega arith))) ∙ e ∙ sym (entry_mated g (suc r) i t m)
    | inr n ↦ ap₂ (λ w l. decided (entry_at g r i) w l (suc r)) (all_winning g law r done all i t)
        (all_lost g law r done all i t ∙ ap (λ b. b || (has_move g i && (list_all (mates_within g r) (g.out i) && list_all (is_won_before (suc r)) (g.exits i)))) (sym n))
  ]
]

-- the columns at the end of a round are those at the beginning of the next
pub next_round : (g : Graph) → IsGame g → (r : ℕ) (done none : ℕ → Bool)
    → ((j : ℕ) → IsNode g j → done j ≡ true) → ((j : ℕ) → IsNode g j → none j ≡ false) → (es ws : List ℕ)
    → (n : ℕ) → n ≡ suc r → Hold (entry_at g r) (has_moves g) (is_winning g r done n) (waits_at g r done n) n es ws
    → Amid g n none n n es ws
next_round g law r done none all fresh es ws n e h = rw e (at_next (rw e at h))
  where
    winning : (i : ℕ) → is_winning g r done (suc r) i ≡ is_winning g (suc r) none (suc r) i
    winning i = ap (λ b. b || list_any (is_lost_before (suc r)) (leaves g i))
        (any_same_on (IsNode g) _ _ (λ j node. loss_known_all g r done j (all j node) ∙ sym (known_none (mated_within g r j) (mated_within g (suc r) j) (none j) (fresh j node))) (outs g i) (outs_are_nodes g law i))

    waiting : (i : ℕ) → waits_at g r done (suc r) i ≡ waits_at g (suc r) none (suc r) i
    waiting i = ap (λ k. k + count_by (λ x. not (is_won_before (suc r) x)) (leaves g i))
        (count_same_on (IsNode g) _ _ (λ j node. ap not (win_known_all g r done j (all j node) ∙ sym (known_none (mates_within g r j) (mates_within g (suc r) j) (none j) (fresh j node)))) (outs g i) (outs_are_nodes g law i))

    at_next : Hold (entry_at g r) (has_moves g) (is_winning g r done (suc r)) (waits_at g r done (suc r)) (suc r) es ws → Amid g (suc r) none (suc r) (suc r) es ws
    at_next h = record {
      entry = λ i.
          h.entry i
          ∙ sym (decided_again (entry_at g r i) (suc r) (suc r + 1) (is_winning g r done (suc r) i) (has_moves g i && eqb (waits_at g r done (suc r) i) 0))
          ∙ ap (λ b. decided b (is_winning g r done (suc r) i) (has_moves g i && eqb (waits_at g r done (suc r) i) 0) (suc r + 1)) (entry_next g law r done all i)
          ∙ ap₂ (λ w k. decided (entry_at g (suc r) i) w (has_moves g i && eqb k 0) (suc r + 1)) (winning i) (waiting i);
      waiting = λ i. h.waiting i ∙ waiting i;
    }

-- the entries at the end of a round
pub closed_entries : (g : Graph) → IsGame g → (r : ℕ) (done : ℕ → Bool) → ((j : ℕ) → IsNode g j → done j ≡ true) → (es ws : List ℕ)
    → (n : ℕ) → n ≡ suc r → Hold (entry_at g r) (has_moves g) (is_winning g r done n) (waits_at g r done n) n es ws
    → (i : ℕ) → slice_index es i ≡ entry_at g n i
closed_entries g law r done all es ws n e h i = rw e (let h = rw e at h in h.entry i ∙ entry_next g law r done all i)
