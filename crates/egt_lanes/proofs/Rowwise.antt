-- Blocks raised row by row.
use Rattle.std.proofs.Common.{◌≡◌, ◌≢◌, ℕ, ◌+◌, ◌<◌, ◌≤◌, List, [], length, get_or, get_or-set_other, arith, sym, ap}
use Rattle.std.proofs.Common.{◌∙◌, inl, inr, subst}
use Rattle.egt_lanes.specs.Prelude.{cases_eq, get_or-set_at, set, length-set, at, IsRaised}

-- the first n rows are raised, and the others are as they were
pub record RowsRaised (In : (a b t : ℕ) → Type 0) (f : (a b t : ℕ) → ℕ) (old out : List (List ℕ)) (n : ℕ) : Type 0 where
  pub long : length out ≡ 64
  pub done : (a b : ℕ) → a < n → b < 64 → IsRaised (at old a b) (In a b) (f a b) (at out a b)
  pub left : (a b : ℕ) → n ≤ a → at out a b ≡ at old a b

pub rows_more : (In : (a b t : ℕ) → Type 0) (f : (a b t : ℕ) → ℕ) (old out : List (List ℕ)) (n : ℕ) (row : List ℕ) → n < 64 → RowsRaised In f old out n
    → ((b : ℕ) → b < 64 → IsRaised (at out n b) (In n b) (f n b) (get_or row b 0)) → RowsRaised In f old (set out n row) (n + 1)
rows_more In f old out n row n_in r here = record {
  long = omega (arith, r.long, length-set {A = List ℕ});
  done = λ a b a_in b_in. elim (cases_eq a n) [
    | inl e ↦
        let now : at (set out n row) a b ≡ get_or row b 0 = ap (λ x. get_or x b 0) (get_or-set_at out n a row [] e (omega (arith, r.long))) in
        let was : at out n b ≡ at old a b = r.left n b (omega arith) ∙ ap (λ m. at old m b) (sym e) in
        subst (IsRaised (at old a b) (In a b) (f a b)) (sym now)
        (subst (λ m. IsRaised (at old a b) (In m b) (f m b) (get_or row b 0)) (sym e)
        (subst (λ v. IsRaised v (In n b) (f n b) (get_or row b 0)) was (here b b_in)))
    | inr other ↦
        let same : at (set out n row) a b ≡ at out a b = ap (λ x. get_or x b 0) (get_or-set_other out n a row [] other) in
        subst (IsRaised (at old a b) (In a b) (f a b)) (sym same) (r.done a b (omega arith) b_in)
  ];
  left = λ a b a_in. let other : a ≢ n = omega arith in ap (λ x. get_or x b 0) (get_or-set_other out n a row [] other) ∙ r.left a b (omega arith);
}
