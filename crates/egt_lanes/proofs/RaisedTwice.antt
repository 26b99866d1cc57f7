-- Raising by one set of squares after another.
use Rattle.std.proofs.Common.{◌≡◌, ℕ, ◌⊎◌, max, refl, sym, ap, ◌∙◌, inl, inr, arith, subst}
use Rattle.egt_lanes.specs.Prelude.{cases_lt, IsRaised}

-- by no square
pub raised_by_none : (low : ℕ) (In : ℕ → Type 0) (f : ℕ → ℕ) → ((t : ℕ) → In t → ⊥) → IsRaised low In f low
raised_by_none low In f none = record { kept = omega arith; above = λ t within. absurd (none t within); reached = inl refl }

-- by one square
pub raised_by_one : (low t : ℕ) (In : ℕ → Type 0) (f : ℕ → ℕ) → In t → ((u : ℕ) → In u → u ≡ t) → IsRaised low In f (max low (f t))
raised_by_one low t In f here only = grind arith

-- by one square alone
pub first_raised : (t : ℕ) (In : ℕ → Type 0) (f : ℕ → ℕ) → In t → ((u : ℕ) → In u → u ≡ t) → IsRaised 0 In f (f t)
first_raised t In f here only = record { kept = omega arith; above = λ u within. let e : f u ≡ f t = ap f (only u within) in omega arith; reached = inr (t, here, refl) }

-- by the squares of either set
pub raised_more : (low v w x : ℕ) (In New : ℕ → Type 0) (f : ℕ → ℕ) → IsRaised low In f v → IsRaised 0 New f w → x ≡ max v w → IsRaised low (λ t. New t ⊎ In t) f x
raised_more low v w x In New f old new is = record {
  kept = omega (arith, old.kept);
  above = λ t either. elim either [ inl n ↦ omega (arith, new.above t n) | inr o ↦ omega (arith, old.above t o) ];
  reached = elim (cases_lt v w) [
    | inl l ↦ elim new.reached [
      | inl e ↦ absurd (omega arith)
      | inr h ↦ inr (h.0, inl h.1, let e : x ≡ w = omega arith in e ∙ h.2)
    ]
    | inr g ↦
        let same : x ≡ v = omega arith in
        elim old.reached [
          | inl e ↦ inl (same ∙ e)
          | inr h ↦ inr (h.0, inr h.1, same ∙ h.2)
        ]
  ];
}

-- by one set after another
pub raised_again : (low v w : ℕ) (In New : ℕ → Type 0) (f : ℕ → ℕ) → IsRaised low In f v → IsRaised v New f w → IsRaised low (λ t. New t ⊎ In t) f w
raised_again low v w In New f old new = grind arith

-- only which squares the set has counts
pub raised_as : (low v : ℕ) (In To : ℕ → Type 0) (f : ℕ → ℕ) → ((t : ℕ) → In t → To t) → ((t : ℕ) → To t → In t) → IsRaised low In f v → IsRaised low To f v
raised_as low v In To f there back h = grind arith

pub raised_is : (low v w : ℕ) (In : ℕ → Type 0) (f : ℕ → ℕ) → w ≡ v → IsRaised low In f v → IsRaised low In f w
raised_is low v w In f e h = subst (IsRaised low In f) (sym e) h

-- where those that do not pass were made 0, only those that pass count
pub raised_among : (low v : ℕ) (In Passes : ℕ → Type 0) (f g : ℕ → ℕ) → ((t : ℕ) → In t → (Passes t × (g t ≡ f t)) ⊎ (¬ Passes t × (g t ≡ 0))) → IsRaised low In g v → IsRaised low (λ t. In t × Passes t) f v
raised_among low v In Passes f g split h = grind arith
