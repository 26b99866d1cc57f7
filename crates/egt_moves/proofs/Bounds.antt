-- How forced mate and the defence against it go with the number of plies, and exclude each other.
use Rattle.std.proofs.Common.{ℕ, zero, suc, ◌≤◌, ◌<◌, ◌⊎◌, inl, inr, arith}
use Rattle.egt_moves.specs.Prelude.{⊎_elim, ⊎_map, cases_lt, Arena, Win, Loss, NoMove, SomeMove, IsMatedWithin}
use Rattle.egt_moves.specs.Prelude.{MatesWithin, AvoidsMateFor, CannotMateWithin, HasValue}

module _ {S : Type 0} (a : Arena S) where
  -- checkmate is a loss within any number
  pub mated_at_once : (n : ℕ) (p : S) → a.Checkmate p → IsMatedWithin a n p
  mated_at_once n p c = grind arith

  -- a forced mate is forced within any greater number
  mutual
    pub mated_more : (m n : ℕ) (p : S) → m ≤ n → IsMatedWithin a m p → IsMatedWithin a n p
    mated_more zero n p le h = mated_at_once n p h
    mated_more (suc m) zero p le h = absurd (omega arith)
    mated_more (suc m) (suc n) p le (inl c) = inl c
    mated_more (suc m) (suc n) p le (inr h) = inr (h.0, λ q s. mates_more m n q (omega arith) (h.1 q s))

    pub mates_more : (m n : ℕ) (p : S) → m ≤ n → MatesWithin a m p → MatesWithin a n p
    mates_more zero n p le h = absurd h
    mates_more (suc m) zero p le h = absurd (omega arith)
    mates_more (suc m) (suc n) p le h = (h.0, h.1, mated_more m n h.0 (omega arith) h.2)

  -- who avoids checkmate at all is not checkmated now
  pub not_mated : (n : ℕ) (p : S) → AvoidsMateFor a n p → ¬ (a.Checkmate p)
  not_mated n p h = grind arith

  -- a defence lasts for any lesser number
  mutual
    pub avoids_less : (m n : ℕ) (p : S) → m ≤ n → AvoidsMateFor a n p → AvoidsMateFor a m p
    avoids_less zero n p le h = not_mated n p h
    avoids_less (suc m) zero p le h = absurd (omega arith)
    avoids_less (suc m) (suc n) p le h =
        (h.0, ⊎_map (λ e. e) (λ (s : SomeMove a p (CannotMateWithin a n)). (s.0, s.1, cannot_less m n s.0 (omega arith) s.2)) h.1)

    pub cannot_less : (m n : ℕ) (p : S) → m ≤ n → CannotMateWithin a n p → CannotMateWithin a m p
    cannot_less zero n p le h = tt
    cannot_less (suc m) zero p le h = absurd (omega arith)
    cannot_less (suc m) (suc n) p le h = λ q s. avoids_less m n q (omega arith) (h q s)

  -- the winner's half and the defender's exclude each other
  mutual
    pub mated_not_avoids : (n : ℕ) (p : S) → IsMatedWithin a n p → AvoidsMateFor a n p → ⊥
    mated_not_avoids zero p h d = d h
    mated_not_avoids (suc n) p (inl c) d = d.0 c
    mated_not_avoids (suc n) p (inr h) d =
        ⊎_elim (λ (none : NoMove a p). none h.0.0 h.0.1) (λ (s : SomeMove a p (CannotMateWithin a n)). mates_not_cannot n s.0 (h.1 s.0 s.1) s.2) d.1

    pub mates_not_cannot : (n : ℕ) (p : S) → MatesWithin a n p → CannotMateWithin a n p → ⊥
    mates_not_cannot zero p h d = h
    mates_not_cannot (suc n) p h d = mated_not_avoids n h.0 h.2 (d h.0 h.1)

  -- who cannot mate within n mates later or never, and who avoids mate for n is mated later or never
  pub beyond_win : (n k : ℕ) (p : S) → CannotMateWithin a n p → MatesWithin a k p → n < k
  beyond_win n k p d w = go (cases_lt n k)
    where
      go : (n < k) ⊎ (k ≤ n) → n < k
      go (inl lt) = lt
      go (inr le) = absurd (mates_not_cannot n p (mates_more k n p le w) d)

  pub beyond_loss : (n k : ℕ) (p : S) → AvoidsMateFor a n p → IsMatedWithin a k p → n < k
  beyond_loss n k p d l = go (cases_lt n k)
    where
      go : (n < k) ⊎ (k ≤ n) → n < k
      go (inl lt) = lt
      go (inr le) = absurd (mated_not_avoids n p (mated_more k n p le l) d)

  -- the value's number is the least
  pub win_is_least : (m n : ℕ) (p : S) → HasValue a p (Win m) → MatesWithin a n p → m ≤ n
  win_is_least m n p v w = grind (arith, beyond_win)

  pub loss_is_least : (m n : ℕ) (p : S) → HasValue a p (Loss m) → IsMatedWithin a n p → m ≤ n
  loss_is_least m n p v l = grind (arith, beyond_loss)

  -- what a value says of forced mate
  pub win_mates : (n : ℕ) (p : S) → HasValue a p (Win n) → MatesWithin a n p
  win_mates n p v = grind arith

  pub loss_mated : (n : ℕ) (p : S) → HasValue a p (Loss n) → IsMatedWithin a n p
  loss_mated n p v = grind arith
