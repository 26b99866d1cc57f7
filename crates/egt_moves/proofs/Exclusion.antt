-- Where checkmate leaves no step, a position is won, lost or neither, and its value is one.
use Rattle.std.proofs.Common.{◌≡◌, ℕ, zero, suc, ◌≤◌, inl, inr, refl, ap, arith}
use Rattle.egt_moves.specs.WinLossDraw.{Arena, Value, Win, Loss, Draw, Ends, IsMatedWithin, MatesWithin, AvoidsMateFor, CannotMateWithin, HasValue}
use Rattle.egt_moves.proofs.Bounds.{win_mates, loss_mated, win_is_least, loss_is_least, mated_not_avoids, mates_not_cannot}

module _ {S : Type 0} (a : Arena S) (ends : Ends a) where
  -- no position is both won and lost
  mutual
    pub mates_not_mated : (m n : ℕ) (p : S) → MatesWithin a m p → IsMatedWithin a n p → ⊥
    mates_not_mated zero n p w l = w
    mates_not_mated (suc m) zero p w l = ends p l w.0 w.1
    mates_not_mated (suc m) (suc n) p w (inl c) = ends p c w.0 w.1
    mates_not_mated (suc m) (suc n) p w (inr h) = mated_not_mates m n w.0 w.2 (h.1 w.0 w.1)

    pub mated_not_mates : (m n : ℕ) (p : S) → IsMatedWithin a m p → MatesWithin a n p → ⊥
    mated_not_mates m zero p l w = w
    mated_not_mates zero (suc n) p l w = ends p l w.0 w.1
    mated_not_mates (suc m) (suc n) p (inl c) w = ends p c w.0 w.1
    mated_not_mates (suc m) (suc n) p (inr h) w = mates_not_mated m n w.0 (h.1 w.0 w.1) w.2

  -- a won position is never mated, and a lost one never mates: the defence that play itself is
  mutual
    pub won_avoids : (m n : ℕ) (p : S) → MatesWithin a m p → AvoidsMateFor a n p
    won_avoids zero n p w = absurd w
    won_avoids (suc m) zero p w = λ c. ends p c w.0 w.1
    won_avoids (suc m) (suc n) p w = (λ c. ends p c w.0 w.1, inr (w.0, w.1, lost_cannot m n w.0 w.2))

    pub lost_cannot : (m n : ℕ) (p : S) → IsMatedWithin a m p → CannotMateWithin a n p
    lost_cannot m zero p l = tt
    lost_cannot zero (suc n) p l = λ q s. absurd (ends p l q s)
    lost_cannot (suc m) (suc n) p (inl c) = λ q s. absurd (ends p c q s)
    lost_cannot (suc m) (suc n) p (inr h) = λ q s. won_avoids m n q (h.1 q s)

  -- a position has at most one value
  pub one_value : (p : S) (v w : Value) → HasValue a p v → HasValue a p w → v ≡ w
  one_value p (Win m) (Win n) v w =
      let up : m ≤ n = win_is_least a m n p v (win_mates a n p w) in
      let down : n ≤ m = win_is_least a n m p w (win_mates a m p v) in
      let same : m ≡ n = omega arith in ap Win same
  one_value p (Win m) (Loss n) v w = absurd (mates_not_mated m n p (win_mates a m p v) (loss_mated a n p w))
  one_value p (Win m) Draw v w = absurd (mates_not_cannot a m p (win_mates a m p v) (w m).1)
  one_value p (Loss m) (Win n) v w = absurd (mates_not_mated n m p (win_mates a n p w) (loss_mated a m p v))
  one_value p (Loss m) (Loss n) v w =
      let up : m ≤ n = loss_is_least a m n p v (loss_mated a n p w) in
      let down : n ≤ m = loss_is_least a n m p w (loss_mated a m p v) in
      let same : m ≡ n = omega arith in ap Loss same
  one_value p (Loss m) Draw v w = absurd (mated_not_avoids a m p (loss_mated a m p v) (w m).0)
  one_value p Draw (Win n) v w = absurd (mates_not_cannot a n p (win_mates a n p w) (v n).1)
  one_value p Draw (Loss n) v w = absurd (mated_not_avoids a n p (loss_mated a n p w) (v n).0)
  one_value p Draw Draw v w = refl
