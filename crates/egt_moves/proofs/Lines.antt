-- How play goes on: a win to a loss one ply less, a loss to a win one ply less or sooner.
use Rattle.std.proofs.Common.{ℕ, zero, suc, ◌⊎◌, inl, inr, arith}
use Rattle.egt_moves.specs.WinLossDraw.{Arena, Win, Loss, NoMove, SomeMove, EachMove, MatesWithin, CannotMateWithin, IsMatedWithin, AvoidsMateFor, HasValue}
use Rattle.egt_moves.proofs.Bounds.{not_mated}

module _ {S : Type 0} (a : Arena S) where
  -- what is mated within k after a step of one that cannot mate within k is a loss in k
  loss_after : (k : ℕ) (p q : S) → CannotMateWithin a k p → a.Move p q → IsMatedWithin a k q → HasValue a q (Loss k)
  loss_after k p q d m l = grind arith

  -- a win has a step to a loss one ply less
  pub win_goes_on : (n : ℕ) (p : S) → HasValue a p (Win (suc n)) → SomeMove a p (λ q. HasValue a q (Loss n))
  win_goes_on n p h = (h.0.0, h.0.1, loss_after n p h.0.0 h.1 h.0.1 h.0.2)

  -- at a loss each step leads to a win of no more than one ply less
  pub loss_goes_down : (n : ℕ) (p : S) → HasValue a p (Loss (suc n)) → EachMove a p (MatesWithin a n)
  loss_goes_down n p h = grind (arith, not_mated)

  -- and one step to a win of exactly one ply less
  pub loss_goes_on : (n : ℕ) (p : S) → HasValue a p (Loss (suc n)) → SomeMove a p (λ q. HasValue a q (Win n))
  loss_goes_on n p h = go n h.0 h.1
    where
      go : (n : ℕ) → IsMatedWithin a (suc n) p → AvoidsMateFor a n p → SomeMove a p (λ q. HasValue a q (Win n))
      go n (inl c) d = absurd (not_mated a n p d c)
      go zero (inr l) d = absurd (l.1 l.0.0 l.0.1)
      go (suc n) (inr l) d = from d.1
        where
          from : NoMove a p ⊎ SomeMove a p (CannotMateWithin a n) → SomeMove a p (λ q. HasValue a q (Win (suc n)))
          from h = grind arith
