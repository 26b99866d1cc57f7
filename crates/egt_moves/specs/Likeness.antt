-- Positions that play alike: each step of the one has its like from the other.
use Rattle.std.specs.Prelude.{◌≡◌, ℕ, zero, suc, ◌↔◌}
use Rattle.egt_moves.specs.WinLossDraw.{Arena}

-- q comes from p by n steps of R
abbrev pub Chain : {S : Type 0} → (S → S → Type 0) → ℕ → S → S → Type 0
Chain R zero p q = p ≡ q
Chain {S} R (suc n) p q = (r : S) × R p r × Chain R n r q

module _ {S : Type 0} (a : Arena S) where
  -- some step from p' leads to where R takes q, and zeroes where the step from p to q does
  abbrev pub HasLike : (S → S → Type 0) → (p p' q : S) → a.Move p q → Type 0
  HasLike R p p' q m = (q' : S) × (m' : a.Move p' q') × R q q' × (a.Zeroes p q m ↔ a.Zeroes p' q' m')

  -- positions that R relates play alike, step by step and both ways
  pub record Alike (R : S → S → Type 0) : Type 0 where
    pub checkmate : (p p' : S) → R p p' → a.Checkmate p ↔ a.Checkmate p'
    pub there : (p p' q : S) → R p p' → (m : a.Move p q) → HasLike R p p' q m
    pub back : (p p' q' : S) → R p p' → (m : a.Move p' q') → HasLike (λ r' r. R r r') p' p q' m

  -- f is its own inverse and keeps each step, zeroing and checkmate, on positions that neither f nor play leaves
  pub record IsMirror (Good : S → Type 0) (f : S → S) : Type 0 where
    pub twice : (p : S) → Good p → f (f p) ≡ p
    pub stays : (p : S) → Good p → Good (f p)
    pub goes_on : (p q : S) → Good p → a.Move p q → Good q
    pub checkmate : (p : S) → Good p → a.Checkmate p → a.Checkmate (f p)
    pub step : (p q : S) → Good p → (m : a.Move p q) → (m' : a.Move (f p) (f q)) × (a.Zeroes p q m ↔ a.Zeroes (f p) (f q) m')

  -- positions that T relates have their steps in common, and both are checkmate or neither is
  pub record KeepsSteps (T : S → S → Type 0) : Type 0 where
    pub checkmate : (p p' : S) → T p p' → a.Checkmate p ↔ a.Checkmate p'
    pub there : (p p' q : S) → T p p' → (m : a.Move p q) → (m' : a.Move p' q) × (a.Zeroes p q m ↔ a.Zeroes p' q m')
    pub back : (p p' q : S) → T p p' → (m : a.Move p' q) → (m' : a.Move p q) × (a.Zeroes p' q m ↔ a.Zeroes p q m')
