-- Where the steps are a finite list, the winner's half and the defender's meet, and a least number is found.
use Rattle.std.proofs.Common.{ℕ, zero, suc, ◌≤◌, ◌⊎◌, inl, inr, subst, arith, Option, Some, None}
use Rattle.std.specs.List.{Any, AllByRecursion}
use Rattle.std.proofs.Math.Logic.{⊎_map, ⊎_swap}
use Rattle.egt_moves.specs.WinLossDraw.{Arena, Value, Win, Loss, HasMove, NoMove, SomeMove, EachMove, IsMatedWithin, MatesWithin, AvoidsMateFor, CannotMateWithin, IsWon, HasValue, AnswersWithin, Next, SameStep, Successors}
use Rattle.egt_moves.proofs.Bounds.{mates_more}
use Rattle.egt_moves.proofs.Among.{each_or_some, found_among, common}

module _ {S : Type 0} (a : Arena S) where
  -- each step has its like among those with P
  abbrev pub EachLike : (p : S) → (Next a p → Type 0) → Type 0
  EachLike p P = (q : S) (m : a.Move p q) → (s : Next a p) × P s × SameStep a p s (q, m)

module _ {S : Type 0} (a : Arena S) (known : Successors a) where
  -- each step has its like among those with P, or some step has Q
  pub each_or_some_step : (p : S) (P Q : Next a p → Type 0) → ((s : Next a p) → P s ⊎ Q s) → EachLike a p P ⊎ ((s : Next a p) × Q s)
  each_or_some_step p P Q choose = ⊎_map each some (each_or_some P Q choose (known.steps p))
    where
      each : AllByRecursion P (known.steps p) → EachLike a p P
      each h q m = found_among P (λ s. SameStep a p s (q, m)) (known.steps p) h (known.complete p q m)

      some : Any Q (known.steps p) → (s : Next a p) × Q s
      some h = (h.1, h.4)

  -- each step leads to a position with P, or some to one with Q
  pub each_or_some_move : (p : S) (P Q : S → Type 0) → ((q : S) → P q ⊎ Q q) → EachMove a p P ⊎ SomeMove a p Q
  each_or_some_move p P Q choose = ⊎_map each some (each_or_some_step p (λ s. P s.0) (λ s. Q s.0) (λ s. choose s.0))
    where
      each : EachLike a p (λ s. P s.0) → EachMove a p P
      each h q m = let s = h q m in subst P s.2.0 s.1

      some : (s : Next a p) × Q s.0 → SomeMove a p Q
      some h = (h.0.0, h.0.1, h.1)

  -- there is a step, or there is none
  pub some_or_no_move : (p : S) → HasMove a p ⊎ NoMove a p
  some_or_no_move p =
      let some : SomeMove a p (λ _. Unit {0}) → HasMove a p = λ s. (s.0, s.1) in
      ⊎_swap (⊎_map (λ none. none) some (each_or_some_move p (λ _. ⊥) (λ _. Unit {0}) (λ _. inr tt)))

  -- the winner forces mate within n, or the defender avoids it for n
  mutual
    pub mated_or_avoids : (n : ℕ) (p : S) → IsMatedWithin a n p ⊎ AvoidsMateFor a n p
    mated_or_avoids zero p = known.checkmate p
    mated_or_avoids (suc n) p = go (known.checkmate p) (some_or_no_move p) (each_or_some_move p (MatesWithin a n) (CannotMateWithin a n) (mates_or_cannot n))
      where
        Half : Type 0
        Half = IsMatedWithin a (suc n) p ⊎ AvoidsMateFor a (suc n) p

        go : a.Checkmate p ⊎ ¬ (a.Checkmate p) → HasMove a p ⊎ NoMove a p → EachMove a p (MatesWithin a n) ⊎ SomeMove a p (CannotMateWithin a n) → Half
        go (inl c) _ _ = inl (inl c)
        go (inr d) (inr none) _ = inr (d, inl none)
        go (inr d) (inl some) (inl each) = inl (inr (some, each))
        go (inr d) (inl some) (inr s) = inr (d, inr s)

    pub mates_or_cannot : (n : ℕ) (p : S) → MatesWithin a n p ⊎ CannotMateWithin a n p
    mates_or_cannot zero p = inr tt
    mates_or_cannot (suc n) p = ⊎_swap (each_or_some_move p (AvoidsMateFor a n) (IsMatedWithin a n) (λ q. ⊎_swap (mated_or_avoids n q)))

  -- where each step leads to a won position, one number of plies is enough for all
  pub each_won_within : (p : S) → EachMove a p (IsWon a) → (n : ℕ) × EachMove a p (MatesWithin a n)
  each_won_within p each = (bound.0, within)
    where
      bound : (k : ℕ) × ((n : ℕ) → k ≤ n → AllByRecursion (λ s. MatesWithin a n s.0) (known.steps p))
      bound = common (λ (s : Next a p) n. MatesWithin a n s.0) (λ s m n. mates_more a m n s.0) (λ s. each s.0 s.1) (known.steps p)

      within : EachMove a p (MatesWithin a bound.0)
      within q m =
          let all = bound.1 bound.0 (omega arith) in
          let s = found_among (λ s. MatesWithin a bound.0 s.0) (λ s. SameStep a p s (q, m)) (known.steps p) all (known.complete p q m) in
          subst (MatesWithin a bound.0) s.2.0 s.1

  -- who mates within n has a win of at most n
  pub win_within : (n : ℕ) (p : S) → MatesWithin a n p → (k : ℕ) × HasValue a p (Win k) × (k ≤ n)
  win_within zero p h = absurd h
  win_within (suc n) p h = go (win_within n p) (mates_or_cannot n p)
    where
      Within : ℕ → Type 0
      Within n = (k : ℕ) × HasValue a p (Win k) × (k ≤ n)

      go : (MatesWithin a n p → Within n) → MatesWithin a n p ⊎ CannotMateWithin a n p → Within (suc n)
      go sooner (inl w) = let found = sooner w in (found.0, found.1, omega arith)
      go sooner (inr d) = (suc n, (h, d), omega arith)

  -- who is mated within n has a loss of at most n
  pub loss_within : (n : ℕ) (p : S) → IsMatedWithin a n p → (k : ℕ) × HasValue a p (Loss k) × (k ≤ n)
  loss_within zero p h = (zero, h, omega arith)
  loss_within (suc n) p h = go (loss_within n p) (mated_or_avoids n p)
    where
      Within : ℕ → Type 0
      Within n = (k : ℕ) × HasValue a p (Loss k) × (k ≤ n)

      go : (IsMatedWithin a n p → Within n) → IsMatedWithin a n p ⊎ AvoidsMateFor a n p → Within (suc n)
      go sooner (inl l) = let found = sooner l in (found.0, found.1, omega arith)
      go sooner (inr d) = (suc n, (h, d), omega arith)

  -- each search has its answer
  pub some_answer : (n : ℕ) (p : S) → (answer : Option Value) × AnswersWithin a n p answer
  some_answer n p = go (mates_or_cannot n p) (mated_or_avoids n p)
    where
      go : MatesWithin a n p ⊎ CannotMateWithin a n p → IsMatedWithin a n p ⊎ AvoidsMateFor a n p → (answer : Option Value) × AnswersWithin a n p answer
      go (inl w) _ = let found = win_within n p w in (Some (Win found.0), (found.1, found.2))
      go (inr _) (inl l) = let found = loss_within n p l in (Some (Loss found.0), (found.1, found.2))
      go (inr d) (inr e) = (None, (e, d))
