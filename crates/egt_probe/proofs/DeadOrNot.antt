-- Dead positions, told by the column of the nearest mates.
use Rattle.std.proofs.Common.{◌≡◌, ◌≢◌, ℕ, Option, refl, sym, ◌∙◌, arith}
use Rattle.egt_probe.specs.Prelude.{Setup, IsIndex, chess, IsDead, HasReach, StandsAs, Standing, HasMove, reach_at}
use Rattle.egt_probe.specs.Prelude.{IsAdmissible, IsStalemate, Checkmate, Stalemate, TableValue, ShowsReach, IsTrueReach}

dead_if_one : (p : Setup) (x : ℕ) (number : Option ℕ) → HasReach chess p number → ShowsReach x number → x ≡ 1 → IsDead chess p
dead_if_one p x number has shows e = grind arith

alive_if_other : (p : Setup) (x : ℕ) (number : Option ℕ) → HasReach chess p number → ShowsReach x number → x ≢ 1 → ¬ (IsDead chess p)
alive_if_other p x number has shows other dead = grind arith

module _ (t : TableValue) (truth : IsTrueReach t) (p : Setup) (i x : ℕ) (ok : IsAdmissible p) (is : IsIndex t.class p i) (e : x ≡ reach_at t i) where
  -- an entry of 1 shows a dead position
  pub shows_dead : x ≡ 1 → IsDead chess p
  shows_dead one = let shown = truth.true p i ok is in dead_if_one p (reach_at t i) shown.0 shown.1 shown.2 (sym e ∙ one)

  -- and any other a position that is not
  pub shows_alive : x ≢ 1 → ¬ (IsDead chess p)
  shows_alive other = let shown = truth.true p i ok is in alive_if_other p (reach_at t i) shown.0 shown.1 shown.2 (λ one. other (e ∙ one))

-- a dead position without a legal move is stalemate
pub stalemate_if_dead : (p : Setup) (s : Standing) → StandsAs p s → (s ≡ HasMove → ⊥) → IsDead chess p → IsStalemate p
stalemate_if_dead p Checkmate stands other dead = absurd (dead 0 stands)
stalemate_if_dead p Stalemate stands other dead = stands
stalemate_if_dead p HasMove stands other dead = absurd (other refl)
