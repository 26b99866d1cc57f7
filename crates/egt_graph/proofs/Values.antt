-- Values of nodes: more plies do no harm, and nobody both wins and loses.
use Rattle.std.proofs.Common.{◌≡◌, ℕ, zero, suc, ◌+◌, ◌<◌, ◌≤◌, Bool, true, ◌&&◌, List, [], sym, ap, ◌∙◌, inl, inr}
use Rattle.std.proofs.Common.{⊎_elim, arith}
use Rattle.egt_graph.specs.Prelude.{list_any, list_all, or_cases, or_left, or_right, and_parts, and_from, false≢true}
use Rattle.egt_graph.specs.Prelude.{lt-ltb, ltb-true, cases_order, Graph, IsNode, IsGame, is_lost_before, is_won_before}
use Rattle.egt_graph.specs.Prelude.{has_move, mated_within, mates_within, mated_before, mates_before, Exit}
use Rattle.egt_graph.proofs.Lists.{any_weaker, all_weaker, any_all_clash}

pub lost_before_more : (n : ℕ) (e : Exit) → is_lost_before n e ≡ true → is_lost_before (suc n) e ≡ true
lost_before_more n e h = grind (arith, ltb-true, lt-ltb)

pub won_before_more : (n : ℕ) (e : Exit) → is_won_before n e ≡ true → is_won_before (suc n) e ≡ true
won_before_more n e h = grind (arith, ltb-true, lt-ltb)

-- one ply more
pub one_more : (g : Graph) (n i : ℕ) → (mated_within g n i ≡ true → mated_within g (suc n) i ≡ true) × (mates_within g n i ≡ true → mates_within g (suc n) i ≡ true)
one_more g zero i = (λ h. or_left _ _ h, λ h. absurd (false≢true h))
one_more g (suc n) i = (
  λ h. ⊎_elim
      (λ m. or_left _ _ m)
      (λ r.
      let t = and_parts (has_move g i) (list_all (mates_within g n) (g.out i) && list_all (is_won_before (suc n)) (g.exits i)) r in
      let u = and_parts (list_all (mates_within g n) (g.out i)) (list_all (is_won_before (suc n)) (g.exits i)) t.1 in
      or_right (g.mated i) _ (and_from _ _ t.0 (and_from _ _
      (all_weaker (mates_within g n) (mates_within g (suc n)) (λ j. (one_more g n j).1) (g.out i) u.0)
      (all_weaker (is_won_before (suc n)) (is_won_before (suc (suc n))) (won_before_more (suc n)) (g.exits i) u.1))))
      (or_cases (g.mated i) _ h),
  λ h. ⊎_elim
      (λ a. or_left _ _ (any_weaker (mated_within g n) (mated_within g (suc n)) (λ j. (one_more g n j).0) (g.out i) a))
      (λ b. or_right (list_any (mated_within g (suc n)) (g.out i)) _ (any_weaker (is_lost_before (suc n)) (is_lost_before (suc (suc n))) (lost_before_more (suc n)) (g.exits i) b))
      (or_cases (list_any (mated_within g n) (g.out i)) _ h),
)

pub mates_more : (g : Graph) (n i : ℕ) → mates_within g n i ≡ true → mates_within g (suc n) i ≡ true
mates_more g n i = (one_more g n i).1

pub mated_more : (g : Graph) (n i : ℕ) → mated_within g n i ≡ true → mated_within g (suc n) i ≡ true
mated_more g n i = (one_more g n i).0

pub mates_before_within : (g : Graph) (n i : ℕ) → mates_before g n i ≡ true → mates_within g n i ≡ true
mates_before_within g n i h = grind (arith, mates_more)

pub mated_before_within : (g : Graph) (n i : ℕ) → mated_before g n i ≡ true → mated_within g n i ≡ true
mated_before_within g n i h = grind (arith, mated_more)

exits_clash : (n : ℕ) (e : Exit) → Unit {0} → is_lost_before n e ≡ true → is_won_before n e ≡ true → ⊥
exits_clash n e u a b = grind arith

any_of_nil : {X : Type 0} (p : X → Bool) (xs : List X) → xs ≡ [] → list_any p xs ≡ true → ⊥
any_of_nil p xs e h = false≢true (sym (ap (list_any p) e) ∙ h)

-- nobody both mates and is mated
pub never_both : (g : Graph) → IsGame g → (n i : ℕ) → IsNode g i → mates_within g n i ≡ true → mated_within g n i ≡ true → ⊥
never_both g law zero i node a b = false≢true a
never_both g law (suc n) i node a b =
    ⊎_elim
    (λ m.
    let ends = law.mate_ends i node m in
    ⊎_elim (any_of_nil _ (g.out i) ends.0) (any_of_nil _ (g.exits i) ends.1) (or_cases (list_any (mated_within g n) (g.out i)) _ a))
    (λ r.
    let t = and_parts (has_move g i) (list_all (mates_within g n) (g.out i) && list_all (is_won_before (suc n)) (g.exits i)) r in
    let u = and_parts (list_all (mates_within g n) (g.out i)) (list_all (is_won_before (suc n)) (g.exits i)) t.1 in
    ⊎_elim
    (λ s. any_all_clash (IsNode g) (mated_within g n) (mates_within g n) (λ j q x y. never_both g law n j q y x) (g.out i) (law.out_nodes i node) s u.0)
    (λ s. any_all_clash (λ _. Unit {0}) (is_lost_before (suc n)) (is_won_before (suc n)) (exits_clash (suc n)) (g.exits i) (λ k d l. tt) s u.1)
    (or_cases (list_any (mated_within g n) (g.out i)) _ a))
    (or_cases (g.mated i) _ b)

-- ---- any number of plies more

-- what stays true at the next number stays so at each later one
pub stays_later : (p : ℕ → Bool) → ((n : ℕ) → p n ≡ true → p (suc n) ≡ true) → (n m : ℕ) → n ≤ m → p n ≡ true → p m ≡ true
stays_later p more n zero le h = let e : n ≡ 0 = omega arith in rw e at h
stays_later p more n (suc m) le h = elim (cases_order n (suc m)) [
  | inl e ↦ rw e at h
  | inr o ↦ elim o [ inl lt ↦ more m (stays_later p more n m (omega arith) h) | inr gt ↦ absurd (omega arith) ]
]

pub mates_le : (g : Graph) (i n m : ℕ) → n ≤ m → mates_within g n i ≡ true → mates_within g m i ≡ true
mates_le g i = stays_later (λ n. mates_within g n i) (λ n. mates_more g n i)

pub mated_le : (g : Graph) (i n m : ℕ) → n ≤ m → mated_within g n i ≡ true → mated_within g m i ≡ true
mated_le g i = stays_later (λ n. mated_within g n i) (λ n. mated_more g n i)

pub never_both_ever : (g : Graph) → IsGame g → (n m i : ℕ) → IsNode g i → mates_within g n i ≡ true → mated_within g m i ≡ true → ⊥
never_both_ever g law n m i node a b =
    never_both g law (n + m) i node (mates_le g i n (n + m) (omega arith) a) (mated_le g i m (n + m) (omega arith) b)

pub mates_before_lt : (g : Graph) (i n m : ℕ) → n < m → mates_within g n i ≡ true → mates_before g m i ≡ true
mates_before_lt g i n m lt h = grind (arith, mates_le)

pub mated_before_lt : (g : Graph) (i n m : ℕ) → n < m → mated_within g n i ≡ true → mated_before g m i ≡ true
mated_before_lt g i n m lt h = grind (arith, mated_le)
