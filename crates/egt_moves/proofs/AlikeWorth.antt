-- Positions that play alike are worth the same, and have the same fitting entries.
use Rattle.std.proofs.Common.{ℕ, zero, suc, ◌⊎◌, ◌↔◌, inl, inr}
use Rattle.egt_moves.specs.Prelude.{⊎_map, Arena, Value, Win, Loss, Draw, HasMove, NoMove, SomeMove, IsMatedWithin}
use Rattle.egt_moves.specs.Prelude.{MatesWithin, AvoidsMateFor, CannotMateWithin, IsWon, IsLost, IsDraw, HasValue}
use Rattle.egt_moves.specs.Prelude.{ZeroesLosingWithin, ZeroesWinningWithin, HasZeroing, Alike}
use Rattle.egt_moves.proofs.Likeness.{alike_backwards}

module _ {S : Type 0} (a : Arena S) (R : S → S → Type 0) (like : Alike a R) where
  no_move_there : (p p' : S) → R p p' → NoMove a p → NoMove a p'
  no_move_there p p' r none q' m' = let s = like.back p p' q' r m' in none s.0 s.1

  has_move_there : (p p' : S) → R p p' → HasMove a p → HasMove a p'
  has_move_there p p' r some = let s = like.there p p' some.0 r some.1 in (s.0, s.1)

  mutual
    pub alike_mated : (n : ℕ) (p p' : S) → R p p' → IsMatedWithin a n p → IsMatedWithin a n p'
    alike_mated zero p p' r c = (like.checkmate p p' r).0 c
    alike_mated (suc n) p p' r (inl c) = inl ((like.checkmate p p' r).0 c)
    alike_mated (suc n) p p' r (inr h) =
        inr (has_move_there p p' r h.0, λ q' m'. let s = like.back p p' q' r m' in alike_mates n s.0 q' s.2 (h.1 s.0 s.1))

    pub alike_mates : (n : ℕ) (p p' : S) → R p p' → MatesWithin a n p → MatesWithin a n p'
    alike_mates zero p p' r h = h
    alike_mates (suc n) p p' r h =
        let s = like.there p p' h.0 r h.1 in
        (s.0, s.1, alike_mated n h.0 s.0 s.2 h.2)

  mutual
    pub alike_avoids : (n : ℕ) (p p' : S) → R p p' → AvoidsMateFor a n p → AvoidsMateFor a n p'
    alike_avoids zero p p' r d = λ c. d ((like.checkmate p p' r).1 c)
    alike_avoids (suc n) p p' r d =
        let goes_on : SomeMove a p (CannotMateWithin a n) → SomeMove a p' (CannotMateWithin a n) =
        λ h. let s = like.there p p' h.0 r h.1 in (s.0, s.1, alike_cannot n h.0 s.0 s.2 h.2) in
        (λ c. d.0 ((like.checkmate p p' r).1 c), ⊎_map (no_move_there p p' r) goes_on d.1)

    pub alike_cannot : (n : ℕ) (p p' : S) → R p p' → CannotMateWithin a n p → CannotMateWithin a n p'
    alike_cannot zero p p' r d = tt
    alike_cannot (suc n) p p' r d = λ q' m'. let s = like.back p p' q' r m' in alike_avoids n s.0 q' s.2 (d s.0 s.1)

  pub alike_won : (p p' : S) → R p p' → IsWon a p → IsWon a p'
  alike_won p p' r w = (w.0, alike_mates w.0 p p' r w.1)

  pub alike_lost : (p p' : S) → R p p' → IsLost a p → IsLost a p'
  alike_lost p p' r l = (l.0, alike_mated l.0 p p' r l.1)

  pub alike_draw : (p p' : S) → R p p' → IsDraw a p → IsDraw a p'
  alike_draw p p' r d n = (alike_avoids n p p' r (d n).0, alike_cannot n p p' r (d n).1)

  -- like positions have the same value
  pub alike_value : (p p' : S) (v : Value) → R p p' → HasValue a p v → HasValue a p' v
  alike_value p p' (Win zero) r h = h
  alike_value p p' (Win (suc n)) r h = (alike_mates (suc n) p p' r h.0, alike_cannot n p p' r h.1)
  alike_value p p' (Loss zero) r h = (like.checkmate p p' r).0 h
  alike_value p p' (Loss (suc n)) r h = (alike_mated (suc n) p p' r h.0, alike_avoids n p p' r h.1)
  alike_value p p' Draw r h = alike_draw p p' r h

  mutual
    pub alike_zeroes_losing : (n : ℕ) (p p' : S) → R p p' → ZeroesLosingWithin a n p → ZeroesLosingWithin a n p'
    alike_zeroes_losing zero p p' r c = (like.checkmate p p' r).0 c
    alike_zeroes_losing (suc n) p p' r (inl c) = inl ((like.checkmate p p' r).0 c)
    alike_zeroes_losing (suc n) p p' r (inr h) =
        let each : (q' : S) (m' : a.Move p' q') → IsWon a q' × (a.Zeroes p' q' m' ⊎ ZeroesWinningWithin a n q') =
        λ q' m'.
        let s = like.back p p' q' r m' in
        let t = h.1 s.0 s.1 in
        (alike_won s.0 q' s.2 t.0, ⊎_map s.3.1 (alike_zeroes_winning n s.0 q' s.2) t.1) in
        inr (has_move_there p p' r h.0, each)

    pub alike_zeroes_winning : (n : ℕ) (p p' : S) → R p p' → ZeroesWinningWithin a n p → ZeroesWinningWithin a n p'
    alike_zeroes_winning zero p p' r h = h
    alike_zeroes_winning (suc n) p p' r h =
        let s = like.there p p' h.0 r h.1 in
        (s.0, s.1, alike_lost h.0 s.0 s.2 h.2, ⊎_map s.3.0 (alike_zeroes_losing n h.0 s.0 s.2) h.3)

module _ {S : Type 0} (a : Arena S) (R : S → S → Type 0) (like : Alike a R) where
  -- like positions have the same zeroing distance
  pub alike_zeroing : (p p' : S) (v : Value) → R p p' → HasZeroing a p v → HasZeroing a p' v
  alike_zeroing p p' (Win zero) r h = h
  alike_zeroing p p' (Win (suc n)) r h = (
    alike_won a R like p p' r h.0,
    alike_zeroes_winning a R like (suc n) p p' r h.1,
    λ z. h.2 (alike_zeroes_winning a (λ x y. R y x) (alike_backwards a R like) n p' p r z),
  )
  alike_zeroing p p' (Loss zero) r h = (like.checkmate p p' r).0 h
  alike_zeroing p p' (Loss (suc n)) r h = (
    alike_lost a R like p p' r h.0,
    alike_zeroes_losing a R like (suc n) p p' r h.1,
    λ z. h.2 (alike_zeroes_losing a (λ x y. R y x) (alike_backwards a R like) n p' p r z),
  )
  alike_zeroing p p' Draw r h = alike_draw a R like p p' r h

module _ {S : Type 0} (a : Arena S) (R : S → S → Type 0) (like : Alike a R) where
  -- positions that play alike have one value, and one zeroing distance
  pub same_worth : (p p' : S) (v : Value) → R p p' → HasValue a p v ↔ HasValue a p' v
  same_worth p p' v r = (alike_value a R like p p' v r, alike_value a (λ p' p. R p p') (alike_backwards a R like) p' p v r)

  pub same_distance : (p p' : S) (v : Value) → R p p' → HasZeroing a p v ↔ HasZeroing a p' v
  same_distance p p' v r = (alike_zeroing a R like p p' v r, alike_zeroing a (λ p' p. R p p') (alike_backwards a R like) p' p v r)
