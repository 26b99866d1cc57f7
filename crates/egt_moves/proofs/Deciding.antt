-- An arena whose steps come of finitely many moves that can be told.
use Rattle.std.specs.Prelude.{List, Option}
use Rattle.egt_moves.specs.Prelude.{IsSomeAnd, Any, filter_map, Decided, Arena, Next, SameStep, Successors}
use Rattle.egt_moves.proofs.Among.{any_filter_map}

module _ {S M : Type 0} (a : Arena S) (moves : S → List M) (tried : (p : S) → M → Option (Next a p)) where
  -- the successors, where finitely many moves can be tried at each position and each step is what one of them gives
  pub successors_among : ((p q : S) (m : a.Move p q) → Any (λ x. IsSomeAnd (tried p x) (λ s. SameStep a p s (q, m))) (moves p)) → ((p : S) → Decided (a.Checkmate p)) → ((p q : S) (m : a.Move p q) → Decided (a.Zeroes p q m)) → Successors a
  successors_among finds checkmate zeroes = record {
    steps = λ p. filter_map (tried p) (moves p);
    complete = λ p q m. any_filter_map (tried p) (λ s. SameStep a p s (q, m)) (moves p) (finds p q m);
    checkmate = checkmate;
    zeroes = zeroes;
  }
