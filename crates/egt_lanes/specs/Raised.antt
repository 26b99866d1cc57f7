-- The greatest of some numbers.
use Rattle.std.specs.Prelude.{◌≡◌, ℕ, ◌≤◌, ◌⊎◌}

-- v is the greatest of `low` and of f at each member
pub record IsRaised (low : ℕ) (In : ℕ → Type 0) (f : ℕ → ℕ) (v : ℕ) : Type 0 where
  pub kept : low ≤ v
  pub above : (t : ℕ) → In t → f t ≤ v
  pub reached : (v ≡ low) ⊎ ((t : ℕ) × In t × (v ≡ f t))
