-- Zeroing distances: how they go with the number and with the value.
use Rattle.std.proofs.Common.{◌≡◌, ℕ, zero, suc, ◌≤◌, inl, inr, refl, ap, arith}
use Rattle.egt_moves.specs.Prelude.{⊎_map, cases_lt, Arena, Value, Win, Loss, Draw, Ends, IsMatedWithin, MatesWithin}
use Rattle.egt_moves.specs.Prelude.{IsWon, IsLost, IsDraw, HasValue, ZeroesLosingWithin, ZeroesWinningWithin}
use Rattle.egt_moves.specs.Prelude.{HasZeroing, SameKind}
use Rattle.egt_moves.proofs.Bounds.{win_mates, loss_mated, mated_not_avoids, mates_not_cannot}
use Rattle.egt_moves.proofs.Exclusion.{mates_not_mated}

module _ {S : Type 0} (a : Arena S) where
  pub zeroes_at_once : (n : ℕ) (p : S) → a.Checkmate p → ZeroesLosingWithin a n p
  zeroes_at_once n p c = grind arith

  -- who zeroes within some number zeroes within any greater one
  mutual
    pub zeroes_losing_more : (m n : ℕ) (p : S) → m ≤ n → ZeroesLosingWithin a m p → ZeroesLosingWithin a n p
    zeroes_losing_more zero n p le h = zeroes_at_once n p h
    zeroes_losing_more (suc m) zero p le h = absurd (omega arith)
    zeroes_losing_more (suc m) (suc n) p le (inl c) = inl c
    zeroes_losing_more (suc m) (suc n) p le (inr h) =
        inr (h.0, λ q s. let t = h.1 q s in (t.0, ⊎_map (λ z. z) (zeroes_winning_more m n q (omega arith)) t.1))

    pub zeroes_winning_more : (m n : ℕ) (p : S) → m ≤ n → ZeroesWinningWithin a m p → ZeroesWinningWithin a n p
    zeroes_winning_more zero n p le h = absurd h
    zeroes_winning_more (suc m) zero p le h = absurd (omega arith)
    zeroes_winning_more (suc m) (suc n) p le h =
        (h.0, h.1, h.2, ⊎_map (λ z. z) (zeroes_losing_more m n h.0 (omega arith)) h.3)

  -- the zeroing distance never exceeds the mate distance
  mutual
    pub mated_zeroes : (n : ℕ) (p : S) → IsMatedWithin a n p → ZeroesLosingWithin a n p
    mated_zeroes zero p h = h
    mated_zeroes (suc n) p (inl c) = inl c
    mated_zeroes (suc n) p (inr h) = inr (h.0, λ q m. ((n, h.1 q m), inr (mates_zeroes n q (h.1 q m))))

    pub mates_zeroes : (n : ℕ) (p : S) → MatesWithin a n p → ZeroesWinningWithin a n p
    mates_zeroes zero p h = h
    mates_zeroes (suc n) p h = (h.0, h.1, (n, h.2), inr (mated_zeroes n h.0 h.2))

  -- who zeroes as a winner is won
  pub zeroes_is_won : (n : ℕ) (p : S) → ZeroesWinningWithin a n p → IsWon a p
  zeroes_is_won zero p h = absurd h
  zeroes_is_won (suc n) p h = (suc h.2.0, (h.0, h.1, h.2.1))

  -- what a zeroing distance says
  pub zeroing_win : (n : ℕ) (p : S) → HasZeroing a p (Win n) → ZeroesWinningWithin a n p
  zeroing_win n p h = grind arith

  pub zeroing_loss : (n : ℕ) (p : S) → HasZeroing a p (Loss n) → ZeroesLosingWithin a n p
  zeroing_loss n p h = grind arith

  pub zeroing_won : (n : ℕ) (p : S) → HasZeroing a p (Win n) → IsWon a p
  zeroing_won n p h = grind arith

  pub zeroing_lost : (n : ℕ) (p : S) → HasZeroing a p (Loss n) → IsLost a p
  zeroing_lost n p h = grind arith

  -- its number is the least
  pub zeroing_win_is_least : (m n : ℕ) (p : S) → HasZeroing a p (Win m) → ZeroesWinningWithin a n p → m ≤ n
  zeroing_win_is_least m n p h w = grind (arith, cases_lt, zeroes_winning_more)

  pub zeroing_loss_is_least : (m n : ℕ) (p : S) → HasZeroing a p (Loss m) → ZeroesLosingWithin a n p → m ≤ n
  zeroing_loss_is_least m n p h l = grind (arith, cases_lt, zeroes_losing_more)

  pub won_not_draw : (p : S) → IsWon a p → IsDraw a p → ⊥
  won_not_draw p w d = mates_not_cannot a w.0 p w.1 (d w.0).1

  pub lost_not_draw : (p : S) → IsLost a p → IsDraw a p → ⊥
  lost_not_draw p l d = mated_not_avoids a l.0 p l.1 (d l.0).0

  -- the zeroing distance of a position whose value is known is no greater than the mate distance
  pub win_zeroes_within : (m n : ℕ) (p : S) → HasValue a p (Win m) → HasZeroing a p (Win n) → n ≤ m
  win_zeroes_within m n p v z = zeroing_win_is_least n m p z (mates_zeroes m p (win_mates a m p v))

  pub loss_zeroes_within : (m n : ℕ) (p : S) → HasValue a p (Loss m) → HasZeroing a p (Loss n) → n ≤ m
  loss_zeroes_within m n p v z = zeroing_loss_is_least n m p z (mated_zeroes m p (loss_mated a m p v))

module _ {S : Type 0} (a : Arena S) (ends : Ends a) where
  pub won_not_lost : (p : S) → IsWon a p → IsLost a p → ⊥
  won_not_lost p w l = mates_not_mated a ends w.0 l.0 p w.1 l.1

  -- the zeroing distance has the kind of the value
  pub same_kind : (p : S) (v w : Value) → HasValue a p v → HasZeroing a p w → SameKind v w
  same_kind p (Win m) (Win n) v w = tt
  same_kind p (Win m) (Loss n) v w = won_not_lost p (m, win_mates a m p v) (zeroing_lost a n p w)
  same_kind p (Win m) Draw v w = won_not_draw a p (m, win_mates a m p v) w
  same_kind p (Loss m) (Win n) v w = won_not_lost p (zeroing_won a n p w) (m, loss_mated a m p v)
  same_kind p (Loss m) (Loss n) v w = tt
  same_kind p (Loss m) Draw v w = lost_not_draw a p (m, loss_mated a m p v) w
  same_kind p Draw (Win n) v w = won_not_draw a p (zeroing_won a n p w) v
  same_kind p Draw (Loss n) v w = lost_not_draw a p (zeroing_lost a n p w) v
  same_kind p Draw Draw v w = tt

  -- a position has at most one zeroing distance
  pub one_zeroing : (p : S) (v w : Value) → HasZeroing a p v → HasZeroing a p w → v ≡ w
  one_zeroing p (Win m) (Win n) v w =
      let up : m ≤ n = zeroing_win_is_least a m n p v (zeroing_win a n p w) in
      let down : n ≤ m = zeroing_win_is_least a n m p w (zeroing_win a m p v) in
      let same : m ≡ n = omega arith in ap Win same
  one_zeroing p (Win m) (Loss n) v w = absurd (won_not_lost p (zeroing_won a m p v) (zeroing_lost a n p w))
  one_zeroing p (Win m) Draw v w = absurd (won_not_draw a p (zeroing_won a m p v) w)
  one_zeroing p (Loss m) (Win n) v w = absurd (won_not_lost p (zeroing_won a n p w) (zeroing_lost a m p v))
  one_zeroing p (Loss m) (Loss n) v w =
      let up : m ≤ n = zeroing_loss_is_least a m n p v (zeroing_loss a n p w) in
      let down : n ≤ m = zeroing_loss_is_least a n m p w (zeroing_loss a m p v) in
      let same : m ≡ n = omega arith in ap Loss same
  one_zeroing p (Loss m) Draw v w = absurd (lost_not_draw a p (zeroing_lost a m p v) w)
  one_zeroing p Draw (Win n) v w = absurd (won_not_draw a p (zeroing_won a n p w) v)
  one_zeroing p Draw (Loss n) v w = absurd (lost_not_draw a p (zeroing_lost a n p w) v)
  one_zeroing p Draw Draw v w = refl

  -- a true distance of a lost or won position is such a number
  pub zeroing_shows_loss : (p : S) (v : Value) → HasZeroing a p v → IsLost a p → (j : ℕ) × (v ≡ Loss j)
  zeroing_shows_loss p (Win j) h l = absurd (won_not_lost p (zeroing_won a j p h) l)
  zeroing_shows_loss p (Loss j) h l = (j, refl)
  zeroing_shows_loss p Draw h l = absurd (lost_not_draw a p l h)

  pub zeroing_shows_win : (p : S) (v : Value) → HasZeroing a p v → IsWon a p → (j : ℕ) × (v ≡ Win j)
  zeroing_shows_win p (Win j) h w = (j, refl)
  zeroing_shows_win p (Loss j) h w = absurd (won_not_lost p w (zeroing_lost a j p h))
  zeroing_shows_win p Draw h w = absurd (won_not_draw a p w h)
