-- Ranks told by entries, and when no further rank can come.
use Rattle.std.proofs.Common.{◌≡◌, ℕ, zero, suc, ◌+◌, ◌*◌, ◌<◌, ◌≤◌, Bool, true, false, cond, eqb, List, length}
use Rattle.std.proofs.Common.{slice_index, refl, sym, ap, ap₂, ◌∙◌, inl, inr, ⊎_elim, arith, IsFalse}
use Rattle.egt_graph.specs.Prelude.{cases_Bool, eq-eqb, both_ways, or_cases, or_left, or_right, false_from_ne_true}
use Rattle.egt_graph.specs.Prelude.{ext_get_or, Graph, IsNode, IsGame, mated_within, mates_within, decided_within}
use Rattle.egt_graph.specs.Prelude.{HasRank, IsWithin, entry_of, AreRanks, NoneAbove, is_node, entry_at, Exit, Win}
use Rattle.egt_graph.specs.Prelude.{Loss, Draw, mated_before, mates_before}
use Rattle.egt_graph.proofs.Values.{never_both_ever, mates_before_lt, mated_before_lt}
use Rattle.egt_graph.proofs.Nodes.{test_from_node, node_from_test}
use Rattle.egt_graph.proofs.Holding.{decided_open, decided_shut, win_is_no_draw, loss_is_no_draw}
use Rattle.egt_graph.proofs.Closing.{entry_none}

-- a value as far as r plies tell: a draw is then what is not decided yet
abbrev pub IsKnown : Graph → ℕ → ℕ → Exit → Type 0
IsKnown g r i (Win n) = HasRank g i (Win n)
IsKnown g r i (Loss n) = HasRank g i (Loss n)
IsKnown g r i Draw = IsFalse (mates_within g r i) × IsFalse (mated_within g r i)

pub record Spells (g : Graph) (r i : ℕ) (v : Exit) : Type 0 where
  pub within : IsWithin r v
  pub entry : entry_at g r i ≡ entry_of v
  pub known : IsKnown g r i v

kept : (g : Graph) (r i n e : ℕ) → entry_at g r i ≡ e → eqb e 1 ≡ false → entry_at g (suc r) i ≡ e
kept g r i n e is shut = decided_shut (entry_at g r i) (suc r) _ _ (ap (λ x. eqb x 1) is ∙ shut) ∙ is

opened : (g : Graph) (r i : ℕ) → entry_at g r i ≡ 1 → (a b : Bool) → mates_within g (suc r) i ≡ a → mated_within g (suc r) i ≡ b
    → entry_at g (suc r) i ≡ cond a (2 + 2 * suc r) (cond b (3 + 2 * suc r) 1)
opened g r i is a b p q = decided_open (entry_at g r i) (suc r) _ _ (eq-eqb (entry_at g r i) 1 is) ∙ ap₂ (λ x y. cond x (2 + 2 * suc r) (cond y (3 + 2 * suc r) 1)) p q

spelled_next : (g : Graph) (r i : ℕ) → (v : Exit) → Spells g r i v → (w : Exit) × Spells g (suc r) i w
spelled_next g r i (Win n) s = let le : n ≤ r = s.within in (Win n, record { within = omega arith; entry = kept g r i n _ s.entry (win_is_no_draw n); known = s.known })
spelled_next g r i (Loss n) s = let le : n ≤ r = s.within in (Loss n, record { within = omega arith; entry = kept g r i n _ s.entry (loss_is_no_draw n); known = s.known })
spelled_next g r i Draw s = elim (cases_Bool (mates_within g (suc r) i)) [
  | inl t ↦ (Win (suc r), record { within = omega arith; entry = opened g r i s.entry true _ t refl; known = (t, s.known.0) })
  | inr f ↦ elim (cases_Bool (mated_within g (suc r) i)) [
    | inl t ↦ (Loss (suc r), record { within = omega arith; entry = opened g r i s.entry false true f t; known = (t, s.known.1) })
    | inr k ↦ (Draw, record { within = tt; entry = opened g r i s.entry false false f k; known = (f, k) })
  ]
]

-- each entry spells a value
pub spelled : (g : Graph) (i : ℕ) → IsNode g i → (r : ℕ) → (v : Exit) × Spells g r i v
spelled g i node zero = elim (cases_Bool (g.mated i)) [
  | inl t ↦ (Loss 0, record { within = omega arith; entry = ap₂ (λ b c. cond b (cond c 3 1) 0) (test_from_node g i node) t; known = (t, refl) })
  | inr f ↦ (Draw, record { within = tt; entry = ap₂ (λ b c. cond b (cond c 3 1) 0) (test_from_node g i node) f; known = (refl, f) })
]
spelled g i node (suc r) = let s = spelled g i node r in spelled_next g r i s.0 s.1

-- where no node has a rank above r, the entries are the ranks
final : (g : Graph) (r limit i : ℕ) → r ≤ limit → NoneAbove g r → IsNode g i → (v : Exit) → Spells g r i v
    → (w : Exit) × HasRank g i w × IsWithin limit w × (entry_at g (suc r) i ≡ entry_of w)
final g r limit i le none node (Win n) s = let within : n ≤ r = s.within in (Win n, s.known, omega arith, kept g r i n _ s.entry (win_is_no_draw n))
final g r limit i le none node (Loss n) s = let within : n ≤ r = s.within in (Loss n, s.known, omega arith, kept g r i n _ s.entry (loss_is_no_draw n))
final g r limit i le none node Draw s = (Draw, never, tt, opened g r i s.entry false false (never (suc r)).0 (never (suc r)).1)
  where
    undecided : (m : ℕ) → decided_within g m i ≡ true → ⊥
    undecided m d = ⊎_elim (both_ways _ s.known.0) (both_ways _ s.known.1) (or_cases (mates_within g r i) (mated_within g r i) (none i node m d))

    never : (m : ℕ) → IsFalse (mates_within g m i) × IsFalse (mated_within g m i)
    never m = (false_from_ne_true _ (λ t. undecided m (or_left _ _ t)), false_from_ne_true _ (λ t. undecided m (or_right (mates_within g m i) _ t)))

pub void_is_no_node : (g : Graph) (i : ℕ) → g.void i ≡ true → is_node g i ≡ false
void_is_no_node g i v = false_from_ne_true _ (λ t. let node = node_from_test g i t in both_ways (g.void i) node.not_void v)

pub final_ranks : (g : Graph) (r limit : ℕ) → r ≤ limit → NoneAbove g r → (es : List ℕ) → length es ≡ g.size
    → (n : ℕ) → n ≡ suc r → ((i : ℕ) → slice_index es i ≡ entry_at g n i) → AreRanks g limit es
final_ranks g r limit le none es long n e are = record {
  all = long;
  voids = λ i in_range v. are i ∙ entry_none g n i (void_is_no_node g i v);
  ranks = λ i node.
      let s = spelled g i node r in
      let f = final g r limit i le none node s.0 s.1 in
      (f.0, f.1, f.2, are i ∙ ap (λ m. entry_at g m i) e ∙ f.3);
}

-- ---- a node has one value

-- what holds within a number of plies, and not before it, does so at one number alone
one_first : (within before : ℕ → Bool) → ((n m : ℕ) → n < m → within n ≡ true → before m ≡ true) → (n m : ℕ)
    → (within n ≡ true) × (before n ≡ false) → (within m ≡ true) × (before m ≡ false) → n ≡ m
one_first within before later n m a b = grind (arith, both_ways)

pub one_value : (g : Graph) → IsGame g → (i : ℕ) → IsNode g i → (v w : Exit) → HasRank g i v → HasRank g i w → v ≡ w
one_value g law i node h4 h5 a b = grind (arith, one_first, mates_within, mates_before, mates_before_lt, mated_within, mated_before, mated_before_lt, never_both_ever, both_ways)

pub same_ranks : (g : Graph) → IsGame g → (limit limit' : ℕ) (es es' : List ℕ) → AreRanks g limit es → AreRanks g limit' es' → es ≡ es'
same_ranks g law limit limit' es es' a b = ext_get_or 0 es es' (a.all ∙ sym b.all) same
  where
    same : (i : ℕ) → i < length es → slice_index es i ≡ slice_index es' i
    same i lt =
        let long = a.all in
        let in_range : i < g.size = omega arith in
        elim (cases_Bool (g.void i)) [
          | inl v ↦ a.voids i in_range v ∙ sym (b.voids i in_range v)
          | inr f ↦
              let node : IsNode g i = record { in_range = in_range; not_void = f } in
              let p = a.ranks i node in
              let q = b.ranks i node in
              p.3 ∙ ap entry_of (one_value g law i node p.0 q.0 p.1 q.1) ∙ sym q.3
        ]
