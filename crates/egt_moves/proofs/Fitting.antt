-- Entries that fit their successors' are the values, and values fit.
use Rattle.std.proofs.Common.{◌≡◌, ◌≢◌, ℕ, zero, suc, ◌≤◌, ◌<◌, ◌⊎◌, inl, inr, refl, sym, subst, arith, ◌∙◌}
use Rattle.egt_moves.specs.Prelude.{⊎_elim, cases_lt, Arena, Value, Win, Loss, Draw, HasMove, NoMove, SomeMove}
use Rattle.egt_moves.specs.Prelude.{EachMove, IsStalemate, Ends, IsMatedWithin, MatesWithin, AvoidsMateFor}
use Rattle.egt_moves.specs.Prelude.{CannotMateWithin, IsWon, HasValue, Successors, Fits, JudgedOver}
use Rattle.egt_moves.proofs.Bounds.{win_mates, loss_mated, win_is_least, loss_is_least, not_mated, mated_more, mates_more, avoids_less, cannot_less, mated_not_avoids, mates_not_cannot, beyond_win}
use Rattle.egt_moves.proofs.Halves.{each_or_some_move, some_or_no_move, each_won_within}
use Rattle.egt_moves.proofs.Exclusion.{won_avoids, lost_cannot, mates_not_mated}

module _ {S : Type 0} (a : Arena S) (ends : Ends a) where
  -- a true value that is no win of at most k leaves no mate within k
  value_cannot : (k : ℕ) (p : S) (v : Value) → HasValue a p v → ((n : ℕ) → v ≡ Win n → k < n) → CannotMateWithin a k p
  value_cannot k p (Win zero) h over = absurd h
  value_cannot k p (Win (suc n)) h over = cannot_less a k n p (omega (arith, over (suc n) refl)) h.1
  value_cannot k p (Loss n) h over = lost_cannot a ends n k p (loss_mated a n p h)
  value_cannot k p Draw h over = (h k).1

  -- a true value that is no loss of at most k leaves a defence for k
  value_avoids : (k : ℕ) (p : S) (v : Value) → HasValue a p v → ((n : ℕ) → v ≡ Loss n → k < n) → AvoidsMateFor a k p
  value_avoids k p (Win n) h over = won_avoids a ends n k p (win_mates a n p h)
  value_avoids k p (Loss zero) h over = absurd (omega (arith, over zero refl))
  value_avoids k p (Loss (suc n)) h over = avoids_less a k n p (omega (arith, over (suc n) refl)) h.1
  value_avoids k p Draw h over = (h k).0

  -- where an entry fits, checkmate shows nothing but a loss in 0
  fits_at_mate : (e : S → Value) (p : S) (v : Value) → Fits a e p v → a.Checkmate p → v ≡ Loss zero
  fits_at_mate e p v h c = grind arith

  -- beside a successor that shows a loss in j, an entry that fits shows a win, of at most j + 1
  fits_at_loss : (e : S → Value) (p q : S) (v : Value) (j : ℕ) → Fits a e p v → a.Move p q → e q ≡ Loss j → (n : ℕ) × (v ≡ Win n) × (n ≤ suc j)
  fits_at_loss e p q v j h m l = grind arith

module _ {S : Type 0} (a : Arena S) (e : S → Value) where
  -- a win that the entry shows, of at most k, is forced within k
  abbrev WinReached : ℕ → S → Type 0
  WinReached k p = (n : ℕ) → e p ≡ Win n → n ≤ k → MatesWithin a k p

  abbrev LossReached : ℕ → S → Type 0
  LossReached k p = (n : ℕ) → e p ≡ Loss n → n ≤ k → IsMatedWithin a k p

  -- where the entry shows no win of at most k, no mate is forced within k
  abbrev NoSoonerWin : ℕ → S → Type 0
  NoSoonerWin k p = ((n : ℕ) → e p ≡ Win n → k < n) → CannotMateWithin a k p

  abbrev NoSoonerLoss : ℕ → S → Type 0
  NoSoonerLoss k p = ((n : ℕ) → e p ≡ Loss n → k < n) → AvoidsMateFor a k p

  true_win_reached : (k : ℕ) (p : S) → HasValue a p (e p) → WinReached k p
  true_win_reached k p h n v le = mates_more a n k p le (win_mates a n p (subst (HasValue a p) v h))

  true_loss_reached : (k : ℕ) (p : S) → HasValue a p (e p) → LossReached k p
  true_loss_reached k p h n v le = mated_more a n k p le (loss_mated a n p (subst (HasValue a p) v h))

module _ {S : Type 0} (a : Arena S) (Own : S → Type 0) (e : S → Value) (judged : JudgedOver a Own e) where
  -- what holds of a class's positions and of true entries holds of each successor
  pub beside : (P : S → Type 0) → ((q : S) → Own q → P q) → ((q : S) → HasValue a q (e q) → P q) → (p q : S) → Own p → a.Move p q → P q
  beside P own outside p q o m = ⊎_elim (own q) (outside q) (judged.over p q o m)

  fits_as : (p : S) (v : Value) → Own p → e p ≡ v → Fits a e p v
  fits_as p v own is = subst (Fits a e p) is (judged.fits p own)

  -- a win one ply from a loss that is reached is reached
  win_step : (k : ℕ) → ((q : S) → Own q → LossReached a e k q) → (n : ℕ) (p : S) → Own p → Fits a e p (Win n) → n ≤ suc k → MatesWithin a (suc k) p
  win_step k next zero p own f le = absurd f
  win_step k next (suc n) p own f le =
      let reached = beside (LossReached a e k) next (true_loss_reached a e k) p f.0.0 own f.0.1 in
      (f.0.0, f.0.1, reached n f.0.2 (omega arith))

  -- a loss whose successors are wins that are reached is reached
  loss_step : (k : ℕ) → ((q : S) → Own q → WinReached a e k q) → (n : ℕ) (p : S) → Own p → Fits a e p (Loss n) → n ≤ suc k → IsMatedWithin a (suc k) p
  loss_step k next zero p own f le = inl f
  loss_step k next (suc n) p own f le = inr ((f.0.0, f.0.1), each)
    where
      each : EachMove a p (MatesWithin a k)
      each q m =
          let t = f.1 q m in
          beside (WinReached a e k) next (true_win_reached a e k) p q own m t.0 t.1 (omega (arith, t.2))

  mated_now : (n : ℕ) (p : S) → Fits a e p (Loss n) → n ≤ zero → a.Checkmate p
  mated_now n p f le = grind arith

  no_win_now : (n : ℕ) (p : S) → Fits a e p (Win n) → n ≤ zero → ⊥
  no_win_now n p f le = grind arith

  -- a win or loss that fits is reached
  mutual
    win_reached : (k : ℕ) (p : S) → Own p → WinReached a e k p
    win_reached zero p own = λ n v le. no_win_now n p (fits_as p (Win n) own v) le
    win_reached (suc k) p own = λ n v le. win_step k (loss_reached k) n p own (fits_as p (Win n) own v) le

    loss_reached : (k : ℕ) (p : S) → Own p → LossReached a e k p
    loss_reached zero p own = λ n v le. mated_now n p (fits_as p (Loss n) own v) le
    loss_reached (suc k) p own = λ n v le. loss_step k (win_reached k) n p own (fits_as p (Loss n) own v) le

  -- a loss sooner than k + 1 beside would show a win sooner than k + 2
  no_win_step : (k : ℕ) → ((q : S) → Own q → NoSoonerLoss a e k q) → (p : S) → Own p → NoSoonerWin a e (suc k) p
  no_win_step k next p own over q m = grind (arith, beside, value_avoids, fits_at_loss)

  not_mated_now : (k : ℕ) (p : S) → Own p → ((n : ℕ) → e p ≡ Loss n → k < n) → ¬ (a.Checkmate p)
  not_mated_now k p own over c = grind (arith, fits_at_mate)

  -- the step to the entry that a win, a loss or a draw rests on keeps the defence going
  no_loss_step : (k : ℕ) → ((q : S) → Own q → NoSoonerWin a e k q) → (p : S) → Own p → NoSoonerLoss a e (suc k) p
  no_loss_step k next p own over = (not_mated_now (suc k) p own over, go (e p) refl (judged.fits p own))
    where
      Defence : Type 0
      Defence = NoMove a p ⊎ SomeMove a p (CannotMateWithin a k)

      defends : (q : S) → a.Move p q → ((j : ℕ) → e q ≡ Win j → k < j) → Defence
      defends q m far = inr (q, m, beside (NoSoonerWin a e k) next (λ r. value_cannot a judged.ends k r (e r)) p q own m far)

      go : (v : Value) → e p ≡ v → Fits a e p v → Defence
      go (Win zero) is f = absurd f
      go (Win (suc n)) is f = defends f.0.0 f.0.1 (λ j w. absurd (let x : Loss n ≡ Win j = sym f.0.2 ∙ w in cc))
      go (Loss zero) is f = let below : suc k < 0 = over zero is in absurd (omega arith)
      go (Loss (suc n)) is f =
          defends f.0.0 f.0.1 (λ j w. let x : Win n ≡ Win j = sym f.0.2 ∙ w in let same : n ≡ j = cc in omega (arith, over (suc n) is))
      go Draw is f = ⊎_elim (λ (s : IsStalemate a p). inl s.0)
          (λ (s : SomeMove a p (λ q. e q ≡ Draw)). defends s.0 s.1 (λ j w. absurd (let x : Draw ≡ Win j = sym s.2 ∙ w in cc))) f.1

  -- and there is no sooner one
  mutual
    no_sooner_win : (k : ℕ) (p : S) → Own p → NoSoonerWin a e k p
    no_sooner_win zero p own = λ over. tt
    no_sooner_win (suc k) p own = no_win_step k (no_sooner_loss k) p own

    no_sooner_loss : (k : ℕ) (p : S) → Own p → NoSoonerLoss a e k p
    no_sooner_loss zero p own = λ over. not_mated_now zero p own over
    no_sooner_loss (suc k) p own = no_loss_step k (no_sooner_win k) p own

  -- entries that fit are the values
  pub fitting_is_true : (p : S) → Own p → HasValue a p (e p)
  fitting_is_true p own = go (e p) refl (judged.fits p own)
    where
      go : (v : Value) → e p ≡ v → Fits a e p v → HasValue a p v
      go (Win zero) is f = f
      go (Win (suc n)) is f =
          let far : (j : ℕ) → e p ≡ Win j → n < j =
          λ j w. let x : Win (suc n) ≡ Win j = sym is ∙ w in let same : suc n ≡ j = cc in omega arith in
          (win_reached (suc n) p own (suc n) is (omega arith), no_sooner_win n p own far)
      go (Loss zero) is f = f
      go (Loss (suc n)) is f =
          let far : (j : ℕ) → e p ≡ Loss j → n < j =
          λ j l. let x : Loss (suc n) ≡ Loss j = sym is ∙ l in let same : suc n ≡ j = cc in omega arith in
          (loss_reached (suc n) p own (suc n) is (omega arith), no_sooner_loss n p own far)
      go Draw is f = λ n.
          let no_loss : (j : ℕ) → e p ≡ Loss j → n < j = λ j l. absurd (let x : Draw ≡ Loss j = sym is ∙ l in cc) in
          let no_win : (j : ℕ) → e p ≡ Win j → n < j = λ j w. absurd (let x : Draw ≡ Win j = sym is ∙ w in cc) in
          (no_sooner_loss n p own no_loss, no_sooner_win n p own no_win)

  -- and so are those of the successors
  pub fitting_beside : (p q : S) → Own p → a.Move p q → HasValue a q (e q)
  fitting_beside p q own m = beside (λ r. HasValue a r (e r)) fitting_is_true (λ r h. h) p q own m

module _ {S : Type 0} (a : Arena S) (ends : Ends a) where
  -- a true value of a position that is mated, or that mates, is such a number
  pub shows_loss : (n : ℕ) (p : S) (v : Value) → HasValue a p v → IsMatedWithin a n p → (j : ℕ) × (v ≡ Loss j) × (j ≤ n)
  shows_loss n p (Win j) h l = absurd (mates_not_mated a ends j n p (win_mates a j p h) l)
  shows_loss n p (Loss j) h l = (j, refl, loss_is_least a j n p h l)
  shows_loss n p Draw h l = absurd (mated_not_avoids a n p l (h n).0)

  pub shows_win : (n : ℕ) (p : S) (v : Value) → HasValue a p v → MatesWithin a n p → (j : ℕ) × (v ≡ Win j) × (j ≤ n)
  shows_win n p (Win j) h w = (j, refl, win_is_least a j n p h w)
  shows_win n p (Loss j) h w = absurd (mates_not_mated a ends n j p w (loss_mated a j p h))
  shows_win n p Draw h w = absurd (mates_not_cannot a n p w (h n).1)

  -- who cannot mate within n has no step to a position that is mated sooner than in n
  spared : (n k : ℕ) (p q : S) → CannotMateWithin a n p → a.Move p q → IsMatedWithin a k q → n ≤ k
  spared zero k p q d m l = omega arith
  spared (suc n) k p q d m l = go (cases_lt k (suc n))
    where
      go : (k < suc n) ⊎ (suc n ≤ k) → suc n ≤ k
      go (inl lt) = absurd (mated_not_avoids a n q (mated_more a k n q (omega arith) l) (d q m))
      go (inr le) = le

is_draw_or_not : (v : Value) → (v ≢ Draw) ⊎ (v ≡ Draw)
is_draw_or_not v = grind arith

module _ {S : Type 0} (a : Arena S) (ends : Ends a) (known : Successors a) where
  -- true values fit
  pub values_fit : (e : S → Value) (p : S) (v : Value) → HasValue a p v → EachMove a p (λ q. HasValue a q (e q)) → Fits a e p v
  values_fit e p (Win zero) h each = h
  values_fit e p (Win (suc n)) h each =
      let q = h.0.0 in
      let m = h.0.1 in
      let least : (r : S) (s : a.Move p r) (k : ℕ) → e r ≡ Loss k → n ≤ k = λ r s k l. spared a ends n k p r h.1 s (loss_mated a k r (subst (HasValue a r) l (each r s))) in
      let t = shows_loss a ends n q (e q) (each q m) h.0.2 in
      let low : n ≤ t.0 = least q m t.0 t.1 in
      let same : t.0 ≡ n = omega (arith, t.2) in
      ((q, m, subst (λ i. e q ≡ Loss i) same t.1), least)
  values_fit e p (Loss zero) h each = h
  values_fit e p (Loss (suc n)) h each = go n h.0 h.1
    where
      go : (n : ℕ) → IsMatedWithin a (suc n) p → AvoidsMateFor a n p → Fits a e p (Loss (suc n))
      go n (inl c) d = absurd (not_mated a n p d c)
      go zero (inr l) d = absurd (l.1 l.0.0 l.0.1)
      go (suc n) (inr l) d = from d.1
        where
          from : NoMove a p ⊎ SomeMove a p (CannotMateWithin a n) → Fits a e p (Loss (suc (suc n)))
          from (inl none) = absurd (none l.0.0 l.0.1)
          from (inr s) =
              let t = shows_win a ends (suc n) s.0 (e s.0) (each s.0 s.1) (l.1 s.0 s.1) in
              let high : n < t.0 = beyond_win a n t.0 s.0 s.2 (win_mates a t.0 s.0 (subst (HasValue a s.0) t.1 (each s.0 s.1))) in
              let same : t.0 ≡ suc n = omega (arith, t.2) in
              ((s.0, s.1, subst (λ i. e s.0 ≡ Win i) same t.1), λ r m. shows_win a ends (suc n) r (e r) (each r m) (l.1 r m))
  values_fit e p Draw h each = (no_loss, go (each_or_some_move a known p (λ q. e q ≢ Draw) (λ q. e q ≡ Draw) (λ q. is_draw_or_not (e q))) (some_or_no_move a known p))
    where
      no_loss : (q : S) → a.Move p q → (k : ℕ) → e q ≢ Loss k
      no_loss q m k l = mates_not_cannot a (suc k) p (q, m, loss_mated a k q (subst (HasValue a q) l (each q m))) (h (suc k)).1

      won : EachMove a p (λ q. e q ≢ Draw) → EachMove a p (IsWon a)
      won no_draw q m = only (e q) refl (each q m)
        where
          only : (v : Value) → e q ≡ v → HasValue a q v → IsWon a q
          only (Win n) is w = (n, win_mates a n q w)
          only (Loss n) is w = absurd (no_loss q m n is)
          only Draw is w = absurd (no_draw q m is)

      go : EachMove a p (λ q. e q ≢ Draw) ⊎ SomeMove a p (λ q. e q ≡ Draw) → HasMove a p ⊎ NoMove a p → IsStalemate a p ⊎ SomeMove a p (λ q. e q ≡ Draw)
      go (inr s) _ = inr s
      go (inl no_draw) (inr none) = inl (none, not_mated a zero p (h zero).0)
      go (inl no_draw) (inl some) =
          let all = each_won_within a known p (won no_draw) in
          absurd (mated_not_avoids a (suc all.0) p (inr (some, all.1)) (h (suc all.0)).0)

  -- a class whose entries are true, beside true entries, is judged
  pub true_is_judged : (Own : S → Type 0) (e : S → Value) → ((p : S) → Own p → HasValue a p (e p)) → ((p q : S) → Own p → a.Move p q → Own q ⊎ HasValue a q (e q)) → JudgedOver a Own e
  true_is_judged Own e value over = grind (arith, values_fit, ⊎_elim)
