-- Positions at nodes, as the graph's tests tell them.
use Rattle.std.proofs.Common.{◌≡◌, ℕ, ◌<◌, ◌⊎◌, ◌↔◌, not, Bool, true, false, List, Option, Some, None, IfSome, IfNone}
use Rattle.std.proofs.Common.{IsFalse, refl, sym, ap, ◌∙◌, subst, inl, inr}
use Rattle.egt_sweep.specs.Prelude.{is_some, Decided, tells, Setup, Spells, IsIndex, IsVoid, size_of, Metric, IsAt, Laws}
use Rattle.egt_sweep.specs.Prelude.{Contains, StandsAs, Standing, passing_is, Connects, position_at, is_mated, connects}
use Rattle.egt_sweep.specs.Prelude.{IsStrictlyIncreasing, tells_where, decided_checkmate, IsCheckmate, passing_below}
use Rattle.egt_moves.specs.declared.outcome.Standing.TheVariants.{Stalemate, HasMove}
use Rattle.egt_sweep.proofs.Linked.{position_is, void_is, there_is, node_at, connects_is}

pub denied : (b x : Bool) → not b ≡ x → b ≡ not x
denied true x e = ap not e
denied false x e = ap not e

pub no_mate : (p : Setup) (s : Standing) → StandsAs p s → (s ≡ Stalemate) ⊎ (s ≡ HasMove) → ¬ IsCheckmate p
no_mate p s stands (inl e) mate = let stale = subst (StandsAs p) e stands in stale.quiet mate.check
no_mate p s stands (inr e) mate = let can = subst (StandsAs p) e stands in mate.stuck can.move can.legal

module _ (laws : Laws) (c i : ℕ) where
  -- a position is found at a code exactly where one is there
  pub found_told : (o : Option Setup) → IfSome o (λ p. Spells c i p) → IfSome o (λ p. IsIndex c p i) → IfNone o (IsVoid c i) → is_some o ≡ is_some (position_at c i)
  found_told None spells index void = sym (void_is laws c i void)
  found_told (Some p) spells index void = sym (there_is laws c i p (record { spells = spells; index = index }))

  -- at a node there is one
  pub none_missing : IsVoid c i → IsFalse (not (is_some (position_at c i))) → ⊥
  none_missing void node = let at = node_at laws c i node in void at.0 at.1.spells.admissible at.1.index

  told_false : {P : Type 0} (d : Decided P) → ¬ P → tells d ≡ false
  told_false (inl h) never = absurd (never h)
  told_false (inr h) never = refl

  mated_at : (p : Setup) → IsAt c i p → (b : Bool) → b ≡ tells (decided_checkmate p) → b ≡ is_mated (position_at c i)
  mated_at p at b is = is ∙ sym (ap is_mated ((position_is laws c i p).1 at))

  -- checkmate is told
  pub mated_told : (p : Setup) → IsAt c i p → IsCheckmate p → true ≡ is_mated (position_at c i)
  mated_told p at mate = mated_at p at true (sym (tells_where (decided_checkmate p) mate))

  pub not_mated_told : (p : Setup) → IsAt c i p → ¬ IsCheckmate p → false ≡ is_mated (position_at c i)
  not_mated_told p at none = mated_at p at false (sym (told_false (decided_checkmate p) none))

  -- an ascending list of exactly the edges is the graph's
  pub edges_told : (metric : Metric) (xs : List ℕ) → c < 36 → IsStrictlyIncreasing xs → ((k : ℕ) → Contains xs k ↔ Connects metric c i k) → xs ≡ passing_below (size_of c) (λ j. connects metric c i j)
  edges_told metric xs below ascends exact = passing_is (size_of c) (λ j. connects metric c i j) xs ascends
      (λ k has. let edge = (exact k).0 has in (laws.facts.index_below edge.to c k edge.index, (connects_is laws metric c i k below).1 edge))
      (λ k lt t. (exact k).1 ((connects_is laws metric c i k below).0 t))

  -- so is one of exactly the nodes that lead here
  pub sources_told : (metric : Metric) (xs : List ℕ) → c < 36 → IsStrictlyIncreasing xs → ((k : ℕ) → Contains xs k ↔ Connects metric c k i) → xs ≡ passing_below (size_of c) (λ k. connects metric c k i)
  sources_told metric xs below ascends exact = passing_is (size_of c) (λ k. connects metric c k i) xs ascends
      (λ k has. let edge = (exact k).0 has in (laws.facts.index_below edge.from c k edge.at.index, (connects_is laws metric c k i below).1 edge))
      (λ k lt t. (exact k).1 ((connects_is laws metric c k i below).0 t))
