-- The square of a man after one went.
use Rattle.std.proofs.Common.{◌≡◌, ◌≢◌, ℕ, cond, ap, inl, inr}
use Rattle.egt_steps.specs.Prelude.{eqb_tells, moved_square}

pub went : (from to s : ℕ) → s ≡ from → moved_square from to s ≡ to
went from to s same = elim (eqb_tells s from) [ inl h ↦ ap (λ b. cond b to s) h.0 | inr h ↦ absurd (h.1 same) ]

pub stayed : (from to s : ℕ) → s ≢ from → moved_square from to s ≡ s
stayed from to s other = elim (eqb_tells s from) [ inl h ↦ absurd (other h.1) | inr h ↦ ap (λ b. cond b to s) h.0 ]
