-- Distances that fit their successors' are the zeroing distances, and zeroing distances fit.
use Rattle.std.proofs.Common.{◌≡◌, ℕ, zero, suc, ◌≤◌, ◌<◌, ◌⊎◌, inl, inr, refl, subst, arith}
use Rattle.egt_moves.specs.Prelude.{⊎_elim, ⊎_map, cases_lt, Arena, Value, Win, Loss, Draw, HasMove, EachMove, Ends}
use Rattle.egt_moves.specs.Prelude.{IsWon, IsLost, HasValue, Next, Successors, ZeroesLosingWithin, ZeroesWinningWithin}
use Rattle.egt_moves.specs.Prelude.{HasZeroing, SameKind, Gives, FitsZeroing, JudgedOver, ZeroingJudgedOver}
use Rattle.egt_moves.proofs.Bounds.{win_mates, loss_mated}
use Rattle.egt_moves.proofs.Halves.{each_or_some_step, EachLike}
use Rattle.egt_moves.proofs.Fitting.{shows_loss, shows_win, fitting_is_true, fitting_beside}
use Rattle.egt_moves.proofs.Distances.{zeroes_at_once, zeroes_losing_more, zeroes_winning_more, zeroes_is_won, zeroing_win, zeroing_loss, zeroing_win_is_least, zeroing_loss_is_least, same_kind, zeroing_shows_loss, zeroing_shows_win}

kind_of_loss : (v w : Value) (i : ℕ) → SameKind v w → v ≡ Loss i → (j : ℕ) × (w ≡ Loss j)
kind_of_loss v w i k e = grind arith

module _ {S : Type 0} (a : Arena S) where
  -- a value that shows a loss is lost
  value_lost : (q : S) (v : Value) (i : ℕ) → HasValue a q v → v ≡ Loss i → IsLost a q
  value_lost q v i h l = (i, loss_mated a i q (subst (HasValue a q) l h))

  value_won : (q : S) (v : Value) (i : ℕ) → HasValue a q v → v ≡ Win i → IsWon a q
  value_won q v i h w = (i, win_mates a i q (subst (HasValue a q) w h))

module _ {S : Type 0} (a : Arena S) (z : S → Value) where
  -- a distance that the entry shows, of at most k, is reached within k
  abbrev WinReached : ℕ → S → Type 0
  WinReached k p = (n : ℕ) → z p ≡ Win n → n ≤ k → ZeroesWinningWithin a k p

  abbrev LossReached : ℕ → S → Type 0
  LossReached k p = (n : ℕ) → z p ≡ Loss n → n ≤ k → ZeroesLosingWithin a k p

  -- and none is reached within less than it shows
  abbrev NoSoonerWin : ℕ → S → Type 0
  NoSoonerWin k p = (n : ℕ) → z p ≡ Win n → k < n → ZeroesWinningWithin a k p → ⊥

  abbrev NoSoonerLoss : ℕ → S → Type 0
  NoSoonerLoss k p = (n : ℕ) → z p ≡ Loss n → k < n → ZeroesLosingWithin a k p → ⊥

  true_win_reached : (k : ℕ) (p : S) → HasZeroing a p (z p) → WinReached k p
  true_win_reached k p h n v le = zeroes_winning_more a n k p le (zeroing_win a n p (subst (HasZeroing a p) v h))

  true_loss_reached : (k : ℕ) (p : S) → HasZeroing a p (z p) → LossReached k p
  true_loss_reached k p h n v le = zeroes_losing_more a n k p le (zeroing_loss a n p (subst (HasZeroing a p) v h))

  true_no_sooner_win : (k : ℕ) (p : S) → HasZeroing a p (z p) → NoSoonerWin k p
  true_no_sooner_win k p h n v lt w = grind (arith, zeroing_win_is_least)

  true_no_sooner_loss : (k : ℕ) (p : S) → HasZeroing a p (z p) → NoSoonerLoss k p
  true_no_sooner_loss k p h n v lt l = grind (arith, zeroing_loss_is_least)

module _ {S : Type 0} (a : Arena S) (Own : S → Type 0) (e z : S → Value) (judged : JudgedOver a Own e) (zeroing : ZeroingJudgedOver a Own e z) where
  -- what holds of a class's positions and of true distances holds of each successor
  zeroing_beside : (P : S → Type 0) → ((q : S) → Own q → P q) → ((q : S) → HasZeroing a q (z q) → P q) → (p q : S) → Own p → a.Move p q → P q
  zeroing_beside P own outside p q o m = ⊎_elim (own q) (outside q) (zeroing.over p q o m)

  fits_as : (p : S) (v : Value) → Own p → z p ≡ v → FitsZeroing a e z p v
  fits_as p v own is = subst (FitsZeroing a e z p) is (zeroing.fits p own)

  -- a lost successor's entry shows a loss
  loss_beside : (p q : S) → Own p → a.Move p q → IsLost a q → (j : ℕ) × (z q ≡ Loss j)
  loss_beside p q own m lost = zeroing_beside (λ r. IsLost a r → (j : ℕ) × (z r ≡ Loss j)) inside outside p q own m lost
    where
      inside : (r : S) → Own r → IsLost a r → (j : ℕ) × (z r ≡ Loss j)
      inside r o l =
          let t = shows_loss a judged.ends l.0 r (e r) (fitting_is_true a Own e judged r o) l.1 in
          kind_of_loss (e r) (z r) t.0 (zeroing.kind r o) t.1

      outside : (r : S) → HasZeroing a r (z r) → IsLost a r → (j : ℕ) × (z r ≡ Loss j)
      outside r h = zeroing_shows_loss a judged.ends r (z r) h

  -- a win that a step gives is reached
  win_step : (k : ℕ) → ((q : S) → Own q → LossReached a z k q) → (n : ℕ) (p : S) → Own p → FitsZeroing a e z p (Win n) → n ≤ suc k → ZeroesWinningWithin a (suc k) p
  win_step k next zero p own f le = absurd f
  win_step k next (suc n) p own f le = (q, m, lost, ⊎_map (λ (h : a.Zeroes p q m × (n ≡ zero)). h.0) goes_on f.0.2.1)
    where
      q : S
      q = f.0.0

      m : a.Move p q
      m = f.0.1

      lost : IsLost a q
      lost = value_lost a q (e q) f.0.2.0.0 (fitting_beside a Own e judged p q own m) f.0.2.0.1

      goes_on : ¬ (a.Zeroes p q m) × (z q ≡ Loss n) → ZeroesLosingWithin a k q
      goes_on h = zeroing_beside (LossReached a z k) next (true_loss_reached a z k) p q own m n h.1 (omega arith)

  -- a loss to which each step gives a number is reached
  loss_step : (k : ℕ) → ((q : S) → Own q → WinReached a z k q) → (n : ℕ) (p : S) → Own p → FitsZeroing a e z p (Loss n) → n ≤ suc k → ZeroesLosingWithin a (suc k) p
  loss_step k next zero p own f le = inl f
  loss_step k next (suc n) p own f le = inr ((f.0.0, f.0.1), each)
    where
      each : (q : S) (m : a.Move p q) → IsWon a q × (a.Zeroes p q m ⊎ ZeroesWinningWithin a k q)
      each q m = (won, ⊎_map (λ (h : a.Zeroes p q m × ((f.1 q m).0 ≡ zero)). h.0) goes_on (f.1 q m).1.1)
        where
          won : IsWon a q
          won = let t = f.1 q m in value_won a q (e q) t.1.0.0 (fitting_beside a Own e judged p q own m) t.1.0.1

          goes_on : ¬ (a.Zeroes p q m) × (z q ≡ Win (f.1 q m).0) → ZeroesWinningWithin a k q
          goes_on h =
              let t = f.1 q m in
              zeroing_beside (WinReached a z k) next (true_win_reached a z k) p q own m t.0 h.1 (omega (arith, t.2))

  mated_now : (n : ℕ) (p : S) → FitsZeroing a e z p (Loss n) → n ≤ zero → a.Checkmate p
  mated_now n p f le = grind arith

  no_win_now : (n : ℕ) (p : S) → FitsZeroing a e z p (Win n) → n ≤ zero → ⊥
  no_win_now n p f le = grind arith

  -- a distance that fits is reached
  mutual
    win_reached : (k : ℕ) (p : S) → Own p → WinReached a z k p
    win_reached zero p own = λ n v le. no_win_now n p (fits_as p (Win n) own v) le
    win_reached (suc k) p own = λ n v le. win_step k (loss_reached k) n p own (fits_as p (Win n) own v) le

    loss_reached : (k : ℕ) (p : S) → Own p → LossReached a z k p
    loss_reached zero p own = λ n v le. mated_now n p (fits_as p (Loss n) own v) le
    loss_reached (suc k) p own = λ n v le. loss_step k (win_reached k) n p own (fits_as p (Loss n) own v) le

  -- a sooner win would give a sooner number
  no_win_step : (k : ℕ) → ((q : S) → Own q → NoSoonerLoss a z k q) → (n : ℕ) (p : S) → Own p → FitsZeroing a e z p (Win n) → suc k < n → ZeroesWinningWithin a (suc k) p → ⊥
  no_win_step k next zero p own f lt h = f
  no_win_step k next (suc n) p own f lt h = ⊎_elim quiet sooner h.3
    where
      q : S
      q = h.0

      m : a.Move p q
      m = h.1

      shown : (i : ℕ) × (e q ≡ Loss i)
      shown = let t = shows_loss a judged.ends h.2.0 q (e q) (fitting_beside a Own e judged p q own m) h.2.1 in (t.0, t.1)

      quiet : ¬ (a.Zeroes p q m)
      quiet s = let le : n ≤ zero = f.1 q m zero (shown, inl (s, refl)) in omega arith

      sooner : ZeroesLosingWithin a k q → ⊥
      sooner l =
          let t = loss_beside p q own m h.2 in
          let le : n ≤ t.0 = f.1 q m t.0 (shown, inr (quiet, t.1)) in
          zeroing_beside (NoSoonerLoss a z k) next (true_no_sooner_loss a z k) p q own m t.0 t.1 (omega arith) l

  -- the step that gives the greatest number keeps a loss from coming sooner
  no_loss_step : (k : ℕ) → ((q : S) → Own q → NoSoonerWin a z k q) → (n : ℕ) (p : S) → Own p → FitsZeroing a e z p (Loss n) → suc k < n → ZeroesLosingWithin a (suc k) p → ⊥
  no_loss_step k next zero p own f lt h = omega arith
  no_loss_step k next (suc n) p own f lt (inl c) = judged.ends p c f.0.0 f.0.1
  no_loss_step k next (suc n) p own f lt (inr h) = ⊎_elim (λ (g : a.Zeroes p q m × (n ≡ zero)). omega (arith, g.1)) sooner f.0.2.1
    where
      q : S
      q = f.0.0

      m : a.Move p q
      m = f.0.1

      sooner : ¬ (a.Zeroes p q m) × (z q ≡ Win n) → ⊥
      sooner g =
          let none = zeroing_beside (NoSoonerWin a z k) next (true_no_sooner_win a z k) p q own m n g.1 (omega arith) in
          ⊎_elim g.0 none (h.1 q m).1

  no_loss_now : (n : ℕ) (p : S) → FitsZeroing a e z p (Loss n) → zero < n → ¬ (a.Checkmate p)
  no_loss_now n p f lt c = grind arith

  -- and there is no sooner one
  mutual
    no_sooner_win : (k : ℕ) (p : S) → Own p → NoSoonerWin a z k p
    no_sooner_win zero p own = λ n v lt h. h
    no_sooner_win (suc k) p own = λ n v lt h. no_win_step k (no_sooner_loss k) n p own (fits_as p (Win n) own v) lt h

    no_sooner_loss : (k : ℕ) (p : S) → Own p → NoSoonerLoss a z k p
    no_sooner_loss zero p own = λ n v lt h. no_loss_now n p (fits_as p (Loss n) own v) lt h
    no_sooner_loss (suc k) p own = λ n v lt h. no_loss_step k (no_sooner_win k) n p own (fits_as p (Loss n) own v) lt h

  -- distances that fit are the zeroing distances
  pub fitting_zeroing_is_true : (p : S) → Own p → HasZeroing a p (z p)
  fitting_zeroing_is_true p own = go (e p) (z p) refl (fitting_is_true a Own e judged p own) (zeroing.kind p own) (zeroing.fits p own)
    where
      go : (v w : Value) → z p ≡ w → HasValue a p v → SameKind v w → FitsZeroing a e z p w → HasZeroing a p w
      go v (Win zero) is h k f = f
      go v (Win (suc n)) is h k f =
          let reached = win_reached (suc n) p own (suc n) is (omega arith) in
          (zeroes_is_won a (suc n) p reached, reached, no_sooner_win n p own (suc n) is (omega arith))
      go v (Loss zero) is h k f = f
      go (Win m) (Loss (suc n)) is h k f = absurd k
      go (Loss m) (Loss (suc n)) is h k f =
          let reached = loss_reached (suc n) p own (suc n) is (omega arith) in
          ((m, loss_mated a m p h), reached, no_sooner_loss n p own (suc n) is (omega arith))
      go Draw (Loss (suc n)) is h k f = absurd k
      go (Win m) Draw is h k f = absurd k
      go (Loss m) Draw is h k f = absurd k
      go Draw Draw is h k f = h

-- the entries of the successors are true, in both columns
pub record TrueBeside {S : Type 0} (a : Arena S) (e z : S → Value) (p : S) : Type 0 where
  pub value : EachMove a p (λ q. HasValue a q (e q))
  pub distance : EachMove a p (λ q. HasZeroing a q (z q))

module _ {S : Type 0} (a : Arena S) (ends : Ends a) (known : Successors a) (e z : S → Value) (p : S) (true_beside : TrueBeside a e z p) where
  -- a step that zeroes or goes on within n to a won position gives a number of at most n
  gives_win : (n : ℕ) (q : S) (m : a.Move p q) → IsWon a q → a.Zeroes p q m ⊎ ZeroesWinningWithin a n q → (k : ℕ) × Gives a Win e z p q m k × (k ≤ n)
  gives_win n q m won or = go (known.zeroes p q m) or
    where
      shown : (i : ℕ) × (e q ≡ Win i)
      shown = let t = shows_win a ends won.0 q (e q) (true_beside.value q m) won.1 in (t.0, t.1)

      go : a.Zeroes p q m ⊎ ¬ (a.Zeroes p q m) → a.Zeroes p q m ⊎ ZeroesWinningWithin a n q → (k : ℕ) × Gives a Win e z p q m k × (k ≤ n)
      go (inl s) _ = (zero, (shown, inl (s, refl)), omega arith)
      go (inr quiet) (inl s) = absurd (quiet s)
      go (inr quiet) (inr d) =
          let t = zeroing_shows_win a ends q (z q) (true_beside.distance q m) won in
          (t.0, (shown, inr (quiet, t.1)), zeroing_win_is_least a t.0 n q (subst (HasZeroing a q) t.1 (true_beside.distance q m)) d)

  -- and so of a lost one
  gives_loss : (n : ℕ) (q : S) (m : a.Move p q) → IsLost a q → a.Zeroes p q m ⊎ ZeroesLosingWithin a n q → (k : ℕ) × Gives a Loss e z p q m k × (k ≤ n)
  gives_loss n q m lost or = go (known.zeroes p q m) or
    where
      shown : (i : ℕ) × (e q ≡ Loss i)
      shown = let t = shows_loss a ends lost.0 q (e q) (true_beside.value q m) lost.1 in (t.0, t.1)

      go : a.Zeroes p q m ⊎ ¬ (a.Zeroes p q m) → a.Zeroes p q m ⊎ ZeroesLosingWithin a n q → (k : ℕ) × Gives a Loss e z p q m k × (k ≤ n)
      go (inl s) _ = (zero, (shown, inl (s, refl)), omega arith)
      go (inr quiet) (inl s) = absurd (quiet s)
      go (inr quiet) (inr d) =
          let t = zeroing_shows_loss a ends q (z q) (true_beside.distance q m) lost in
          (t.0, (shown, inr (quiet, t.1)), zeroing_loss_is_least a t.0 n q (subst (HasZeroing a q) t.1 (true_beside.distance q m)) d)

  -- what gives the number k to a lost position lets the winner zero within k + 1
  win_from_given : (q : S) (m : a.Move p q) (k : ℕ) → Gives a Loss e z p q m k → ZeroesWinningWithin a (suc k) p
  win_from_given q m k g = grind (arith, value_lost, ⊎_map, zeroing_loss)

  fits_win : (n : ℕ) → HasZeroing a p (Win (suc n)) → FitsZeroing a e z p (Win (suc n))
  fits_win n h = ((h.1.0, h.1.1, subst (Gives a Loss e z p h.1.0 h.1.1) same t.1), least)
    where
      least : (r : S) (s : a.Move p r) (k : ℕ) → Gives a Loss e z p r s k → n ≤ k
      least r s k g = go (cases_lt k n)
        where
          go : (k < n) ⊎ (n ≤ k) → n ≤ k
          go (inl lt) = absurd (h.2 (zeroes_winning_more a (suc k) n p lt (win_from_given r s k g)))
          go (inr le) = le

      t : (k : ℕ) × Gives a Loss e z p h.1.0 h.1.1 k × (k ≤ n)
      t = gives_loss n h.1.0 h.1.1 h.1.2 h.1.3

      same : t.0 ≡ n
      same = omega (arith, t.2, least h.1.0 h.1.1 t.0 t.1)

  -- what a step to a won position gives is n + 1, or lets the loser zero within n
  more_or_within : (n : ℕ) (s : Next a p) (k : ℕ) → Gives a Win e z p s.0 s.1 k → k ≤ suc n → (a.Zeroes p s.0 s.1 ⊎ ZeroesWinningWithin a n s.0) ⊎ Gives a Win e z p s.0 s.1 (suc n)
  more_or_within n s k g le = go (cases_lt n k)
    where
      within : k ≤ n → a.Zeroes p s.0 s.1 ⊎ ZeroesWinningWithin a n s.0
      within few = ⊎_map (λ (h : a.Zeroes p s.0 s.1 × (k ≡ zero)). h.0)
          (λ (h : ¬ (a.Zeroes p s.0 s.1) × (z s.0 ≡ Win k)). zeroes_winning_more a k n s.0 few (zeroing_win a k s.0 (subst (HasZeroing a s.0) h.1 (true_beside.distance s.0 s.1)))) g.1

      go : (n < k) ⊎ (k ≤ n) → (a.Zeroes p s.0 s.1 ⊎ ZeroesWinningWithin a n s.0) ⊎ Gives a Win e z p s.0 s.1 (suc n)
      go (inl lt) = let same : k ≡ suc n = omega arith in inr (subst (Gives a Win e z p s.0 s.1) same g)
      go (inr few) = inl (within few)

  -- where not each step goes on within n, some step gives n + 1
  some_gives_more : (n : ℕ) → HasMove a p → ((q : S) (m : a.Move p q) → IsWon a q × (a.Zeroes p q m ⊎ ZeroesWinningWithin a (suc n) q)) → ¬ (ZeroesLosingWithin a (suc n) p) → (q : S) × (m : a.Move p q) × Gives a Win e z p q m (suc n)
  some_gives_more n some each not_within = go (each_or_some_step a known p (λ s. a.Zeroes p s.0 s.1 ⊎ ZeroesWinningWithin a n s.0) (λ s. Gives a Win e z p s.0 s.1 (suc n)) choose)
    where
      choose : (s : Next a p) → (a.Zeroes p s.0 s.1 ⊎ ZeroesWinningWithin a n s.0) ⊎ Gives a Win e z p s.0 s.1 (suc n)
      choose s =
          let t = each s.0 s.1 in
          let g = gives_win (suc n) s.0 s.1 t.0 t.1 in
          more_or_within n s g.0 g.1 g.2

      go : EachLike a p (λ s. a.Zeroes p s.0 s.1 ⊎ ZeroesWinningWithin a n s.0) ⊎ ((s : Next a p) × Gives a Win e z p s.0 s.1 (suc n)) → (q : S) × (m : a.Move p q) × Gives a Win e z p q m (suc n)
      go (inl all) =
          let within : (q : S) (m : a.Move p q) → IsWon a q × (a.Zeroes p q m ⊎ ZeroesWinningWithin a n q) =
          λ q m. let t = all q m in ((each q m).0, ⊎_map t.2.1.0 (subst (ZeroesWinningWithin a n) t.2.0) t.1) in
          absurd (not_within (inr (some, within)))
      go (inr s) = (s.0.0, s.0.1, s.1)

  fits_loss : (n : ℕ) → HasZeroing a p (Loss (suc n)) → FitsZeroing a e z p (Loss (suc n))
  fits_loss n h = go n h.1 h.2
    where
      go : (n : ℕ) → ZeroesLosingWithin a (suc n) p → ¬ (ZeroesLosingWithin a n p) → FitsZeroing a e z p (Loss (suc n))
      go n (inl c) d = absurd (d (zeroes_at_once a n p c))
      go zero (inr l) d =
          let t = l.1 l.0.0 l.0.1 in
          let g = gives_win zero l.0.0 l.0.1 t.0 t.1 in
          let same : g.0 ≡ zero = omega (arith, g.2) in
          ((l.0.0, l.0.1, subst (Gives a Win e z p l.0.0 l.0.1) same g.1), λ q m. let u = l.1 q m in gives_win zero q m u.0 u.1)
      go (suc n) (inr l) d = (some_gives_more n l.0 l.1 d, λ q m. let u = l.1 q m in gives_win (suc n) q m u.0 u.1)

  -- true distances fit
  pub zeroing_fits : (v : Value) → HasZeroing a p v → FitsZeroing a e z p v
  zeroing_fits v h = grind (arith, fits_win, fits_loss)

module _ {S : Type 0} (a : Arena S) (ends : Ends a) (known : Successors a) where
  -- a class whose distances are true, beside true distances, is judged
  pub true_zeroing_is_judged : (Own : S → Type 0) (e z : S → Value) → ((p : S) → Own p → HasValue a p (e p)) → ((p : S) → Own p → HasZeroing a p (z p)) → ((p q : S) → Own p → a.Move p q → Own q ⊎ HasValue a q (e q)) → ((p q : S) → Own p → a.Move p q → Own q ⊎ HasZeroing a q (z q)) → ZeroingJudgedOver a Own e z
  true_zeroing_is_judged Own e z value distance over zeroing_over = record {
    over = zeroing_over;
    kind = λ p own. same_kind a ends p (e p) (z p) (value p own) (distance p own);
    fits = λ p own. zeroing_fits a ends known e z p
        (record {
          value = λ q m. ⊎_elim (value q) (λ h. h) (over p q own m);
          distance = λ q m. ⊎_elim (distance q) (λ h. h) (zeroing_over p q own m);
        }) (z p) (distance p own);
  }
