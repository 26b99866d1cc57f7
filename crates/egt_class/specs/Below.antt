-- Tests of each number below some number.
use Rattle.std.specs.Prelude.{◌≡◌, ℕ, zero, suc, ◌<◌, ◌&&◌, Bool, true}
use Rattle.std.proofs.Common.{arith, inl, inr, ap, ◌∙◌}
use Rattle.std.proofs.lemmas.Bool.{cases_eq, and_parts}

-- the test passes for each number below n
unfoldable pub all_below : (ℕ → Bool) → ℕ → Bool
all_below p zero = true
all_below p (suc n) = p n && all_below p n

-- what passes for all below n passes for each k below n
pub passes_below : (p : ℕ → Bool) (n k : ℕ) → all_below p n ≡ true → k < n → p k ≡ true
unfolding all_below
passes_below p zero k all k_in = absurd (omega arith)
passes_below p (suc n) k all k_in = elim (cases_eq k n) [
  | inl e ↦ ap p e ∙ (and_parts (p n) (all_below p n) all).0
  | inr other ↦ passes_below p n k (and_parts (p n) (all_below p n) all).1 (omega arith)
]
