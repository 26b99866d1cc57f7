-- The nearest checkmate by legal steps of both sides: a least number, that entries which fit show, and that positions which play alike share.
use Rattle.std.proofs.Common.{◌≡◌, ℕ, zero, suc, ◌≤◌, ◌<◌, ◌⊎◌, ◌↔◌, inl, inr, refl, subst, arith, Option, Some, None}
use Rattle.egt_moves.specs.Prelude.{⊎_elim, ⊎_swap, cases_lt, Arena, SomeMove, EachMove, IsStalemate, IsMatedWithin}
use Rattle.egt_moves.specs.Prelude.{MatesWithin, IsDraw, Successors, Alike, ReachesMateWithin, IsDead, HasReach}
use Rattle.egt_moves.specs.Prelude.{FitsReach, ReachJudgedOver}
use Rattle.egt_moves.proofs.Likeness.{alike_backwards}
use Rattle.egt_moves.proofs.Halves.{each_or_some_move, mated_or_avoids, mates_or_cannot}

module _ {S : Type 0} (a : Arena S) where
  -- checkmate is reached within any number
  reached_at_once : (n : ℕ) (p : S) → a.Checkmate p → ReachesMateWithin a n p
  reached_at_once n p c = grind arith

  -- a line of some number of steps is one of any greater number
  pub reaches_more : (m n : ℕ) (p : S) → m ≤ n → ReachesMateWithin a m p → ReachesMateWithin a n p
  reaches_more zero n p le h = reached_at_once n p h
  reaches_more (suc m) zero p le h = absurd (omega arith)
  reaches_more (suc m) (suc n) p le (inl c) = inl c
  reaches_more (suc m) (suc n) p le (inr s) = inr (s.0, s.1, reaches_more m n s.0 (omega arith) s.2)

  -- a step on, and one ply more
  step_reaches : (n : ℕ) (p q : S) → a.Move p q → ReachesMateWithin a n q → ReachesMateWithin a (suc n) p
  step_reaches n p q m h = inr (q, m, h)

  -- whoever forces mate reaches it
  mutual
    mated_reaches : (n : ℕ) (p : S) → IsMatedWithin a n p → ReachesMateWithin a n p
    mated_reaches zero p c = c
    mated_reaches (suc n) p (inl c) = inl c
    mated_reaches (suc n) p (inr h) = inr (h.0.0, h.0.1, mates_reaches n h.0.0 (h.1 h.0.0 h.0.1))

    mates_reaches : (n : ℕ) (p : S) → MatesWithin a n p → ReachesMateWithin a n p
    mates_reaches zero p h = absurd h
    mates_reaches (suc n) p h = inr (h.0, h.1, mated_reaches n h.0 h.2)

  -- where no step leads on and there is no checkmate, none is reached
  pub stalemate_dead : (p : S) → IsStalemate a p → IsDead a p
  stalemate_dead p s h c = grind arith

  -- a number that is reached is no less than the least
  pub least_reach : (m n : ℕ) (p : S) → HasReach a p (Some m) → ReachesMateWithin a n p → m ≤ n
  least_reach m n p h r = grind (arith, cases_lt, reaches_more)

  -- a position has one number at most
  pub one_reach : (p : S) (x y : Option ℕ) → HasReach a p x → HasReach a p y → x ≡ y
  one_reach p x y h k = grind (arith, least_reach)

module _ {S : Type 0} (a : Arena S) (known : Successors a) where
  -- a dead position is a draw
  pub dead_drawn : (p : S) → IsDead a p → IsDraw a p
  dead_drawn p dead n = (
    ⊎_elim (λ (h : IsMatedWithin a n p). absurd (dead n (mated_reaches a n p h))) (λ d. d) (mated_or_avoids a known n p),
    ⊎_elim (λ (h : MatesWithin a n p). absurd (dead n (mates_reaches a n p h))) (λ d. d) (mates_or_cannot a known n p),
  )

  -- whether checkmate is reached within n can be told
  reaches_or_not : (n : ℕ) (p : S) → ReachesMateWithin a n p ⊎ ¬ (ReachesMateWithin a n p)
  reaches_or_not zero p = known.checkmate p
  reaches_or_not (suc n) p = go (known.checkmate p) (each_or_some_move a known p (λ q. ¬ (ReachesMateWithin a n q)) (ReachesMateWithin a n) (λ q. ⊎_swap (reaches_or_not n q)))
    where
      go : a.Checkmate p ⊎ ¬ (a.Checkmate p) → EachMove a p (λ q. ¬ (ReachesMateWithin a n q)) ⊎ SomeMove a p (ReachesMateWithin a n) → ReachesMateWithin a (suc n) p ⊎ ¬ (ReachesMateWithin a (suc n) p)
      go (inl c) _ = inl (inl c)
      go (inr d) (inl none) = inr (λ h. ⊎_elim d (λ (s : SomeMove a p (ReachesMateWithin a n)). none s.0 s.1 s.2) h)
      go (inr d) (inr some) = inl (inr some)

  -- whoever reaches checkmate within n does so in a least number of plies
  pub reach_within : (n : ℕ) (p : S) → ReachesMateWithin a n p → (k : ℕ) × HasReach a p (Some k) × (k ≤ n)
  reach_within zero p h = (zero, (h, tt), omega arith)
  reach_within (suc n) p h = go (reach_within n p) (reaches_or_not n p)
    where
      go : (ReachesMateWithin a n p → (k : ℕ) × HasReach a p (Some k) × (k ≤ n)) → ReachesMateWithin a n p ⊎ ¬ (ReachesMateWithin a n p) → (k : ℕ) × HasReach a p (Some k) × (k ≤ suc n)
      go less (inl r) = let t = less r in (t.0, t.1, omega (arith, t.2))
      go less (inr d) = (suc n, (h, d), omega arith)

-- positions that play alike reach checkmate within one number
alike_reaches : {S : Type 0} (a : Arena S) (R : S → S → Type 0) → Alike a R → (n : ℕ) (p p' : S) → R p p' → ReachesMateWithin a n p → ReachesMateWithin a n p'
alike_reaches a R like zero p p' r c = (like.checkmate p p' r).0 c
alike_reaches a R like (suc n) p p' r (inl c) = inl ((like.checkmate p p' r).0 c)
alike_reaches a R like (suc n) p p' r (inr h) =
    let s = like.there p p' h.0 r h.1 in
    inr (s.0, s.1, alike_reaches a R like n h.0 s.0 s.2 h.2)

module _ {S : Type 0} (a : Arena S) (R : S → S → Type 0) (like : Alike a R) where
  reaches_back : (n : ℕ) (p p' : S) → R p p' → ReachesMateWithin a n p' → ReachesMateWithin a n p
  reaches_back n p p' r = alike_reaches a (λ p' p. R p p') (alike_backwards a R like) n p' p r

  -- their nearest mates are equally far
  alike_reach : (p p' : S) (x : Option ℕ) → R p p' → HasReach a p x → HasReach a p' x
  alike_reach p p' x r h = grind (arith, alike_reaches, reaches_back)

pub same_reach : {S : Type 0} (a : Arena S) (R : S → S → Type 0) → Alike a R → (p p' : S) (x : Option ℕ) → R p p' → HasReach a p x ↔ HasReach a p' x
same_reach a R like p p' x r = (alike_reach a R like p p' x r, alike_reach a (λ p' p. R p p') (alike_backwards a R like) p' p x r)

module _ {S : Type 0} (a : Arena S) (e : S → Option ℕ) where
  -- a number that the entry shows is reached
  abbrev Reached : ℕ → S → Type 0
  Reached n p = e p ≡ Some n → ReachesMateWithin a n p

  -- what is reached within n is shown, by n at most
  abbrev Told : ℕ → S → Type 0
  Told n p = ReachesMateWithin a n p → (k : ℕ) × (e p ≡ Some k) × (k ≤ n)

  true_reached : (n : ℕ) (q : S) → HasReach a q (e q) → Reached n q
  true_reached n q h is = (subst (HasReach a q) is h).0

  true_told : (n : ℕ) (q : S) → HasReach a q (e q) → Told n q
  true_told n q h r = go (e q) refl
    where
      go : (x : Option ℕ) → e q ≡ x → (k : ℕ) × (e q ≡ Some k) × (k ≤ n)
      go (Some k) is = (k, is, least_reach a k n q (subst (HasReach a q) is h) r)
      go None is = absurd (subst (HasReach a q) is h n r)

module _ {S : Type 0} (a : Arena S) (Own : S → Type 0) (e : S → Option ℕ) (judged : ReachJudgedOver a Own e) where
  -- what holds of a class's positions and of true entries holds of each successor
  beside : (P : S → Type 0) → ((q : S) → Own q → P q) → ((q : S) → HasReach a q (e q) → P q) → (p q : S) → Own p → a.Move p q → P q
  beside P own outside p q o m = ⊎_elim (own q) (outside q) (judged.over p q o m)

  fits_as : (p : S) (x : Option ℕ) → Own p → e p ≡ x → FitsReach a e p x
  fits_as p x own is = subst (FitsReach a e p) is (judged.fits p own)

  shown_reached : (n : ℕ) (p : S) → Own p → Reached a e n p
  shown_reached zero p own is = fits_as p (Some zero) own is
  shown_reached (suc n) p own is =
      let f = fits_as p (Some (suc n)) own is in
      inr (f.1.0.0, f.1.0.1, beside (Reached a e n) (shown_reached n) (true_reached a e n) p f.1.0.0 own f.1.0.1 f.1.0.2)

  -- an entry that fits shows checkmate, and no more than one ply above a successor's number
  told_at_mate : (n : ℕ) (p : S) (x : Option ℕ) → FitsReach a e p x → a.Checkmate p → (k : ℕ) × (x ≡ Some k) × (k ≤ n)
  told_at_mate n p x f c = grind arith

  told_beside : (n k : ℕ) (p q : S) (x : Option ℕ) → FitsReach a e p x → a.Move p q → e q ≡ Some k → k ≤ n → (j : ℕ) × (x ≡ Some j) × (j ≤ suc n)
  told_beside n k p q x f m is le = grind arith

  reached_told : (n : ℕ) (p : S) → Own p → Told a e n p
  reached_told zero p own c = told_at_mate zero p (e p) (judged.fits p own) c
  reached_told (suc n) p own (inl c) = told_at_mate (suc n) p (e p) (judged.fits p own) c
  reached_told (suc n) p own (inr h) =
      let t = beside (Told a e n) (reached_told n) (true_told a e n) p h.0 own h.1 h.2 in
      told_beside n t.0 p h.0 (e p) (judged.fits p own) h.1 t.1 t.2

  -- entries that fit are the numbers
  pub fitting_reach : (p : S) → Own p → HasReach a p (e p)
  fitting_reach p own = grind (arith, reached_told, shown_reached)

module _ {S : Type 0} (a : Arena S) (Own : S → Type 0) (e : S → Option ℕ) where
  -- true numbers fit
  pub true_reach_fits : ((p : S) → Own p → HasReach a p (e p)) → ((p q : S) → Own p → a.Move p q → Own q ⊎ HasReach a q (e q)) → ReachJudgedOver a Own e
  true_reach_fits own over = record { over = over; fits = λ p o. go p o (e p) (own p o) }
    where
      next : (p q : S) → Own p → a.Move p q → HasReach a q (e q)
      next p q o m = ⊎_elim (own q) (λ h. h) (over p q o m)

      no_less : (n k : ℕ) (p q : S) → ¬ (ReachesMateWithin a n p) → a.Move p q → ReachesMateWithin a k q → n ≤ k
      no_less n k p q none m r = late (cases_lt k n)
        where
          late : (k < n) ⊎ (n ≤ k) → n ≤ k
          late (inl less) = absurd (none (reaches_more a (suc k) n p (omega (arith, less)) (step_reaches a k p q m r)))
          late (inr le) = le

      least : (n : ℕ) (p : S) → Own p → ¬ (ReachesMateWithin a n p) → SomeMove a p (ReachesMateWithin a n) → (q : S) × (m : a.Move p q) × (e q ≡ Some n)
      least n p o none s = at (e s.0) refl
        where
          at : (x : Option ℕ) → e s.0 ≡ x → (q : S) × (m : a.Move p q) × (e q ≡ Some n)
          at h0 is = grind (arith, next, least_reach, no_less, none)

      go : (p : S) → Own p → (x : Option ℕ) → HasReach a p x → FitsReach a e p x
      go p o (Some zero) h = h.0
      go p o (Some (suc n)) h = (
        (λ c. h.1 (reached_at_once a n p c)),
        (
          least n p o h.1 (⊎_elim (λ (c : a.Checkmate p). absurd (h.1 (reached_at_once a n p c))) (λ s. s) h.0),
          λ q m k is. no_less n k p q h.1 m (subst (HasReach a q) is (next p q o m)).0,
        ),
      )
      go p o None h = (h zero, λ q m. none q m (e q) refl)
        where
          none : (q : S) (m : a.Move p q) (x : Option ℕ) → e q ≡ x → e q ≡ None
          none q m (Some k) is = absurd (h (suc k) (step_reaches a k p q m (subst (HasReach a q) is (next p q o m)).0))
          none q m None is = is
