-- Entries of a table: what each must be beside those of the successors. One look forward, no search.
use Rattle.std.specs.Prelude.{◌≡◌, ◌≢◌, ℕ, zero, suc, ◌≤◌, ◌⊎◌}
use Rattle.egt_moves.specs.WinLossDraw.{Arena, Value, Win, Loss, Draw, SomeMove, EachMove, IsStalemate, Ends, HasValue}
use Rattle.egt_moves.specs.Zeroing.{HasZeroing}

-- both are wins, both are losses or both are draws
abbrev pub SameKind : Value → Value → Type 0
SameKind (Win m) (Win n) = Unit {0}
SameKind (Loss m) (Loss n) = Unit {0}
SameKind Draw Draw = Unit {0}
SameKind _ _ = ⊥

module _ {S : Type 0} (a : Arena S) where
  -- some step gives n, and none gives less
  abbrev pub IsLeast : (p : S) → ((q : S) → a.Move p q → ℕ → Type 0) → ℕ → Type 0
  IsLeast p gives n = ((q : S) × (m : a.Move p q) × gives q m n) × ((q : S) (m : a.Move p q) (k : ℕ) → gives q m k → n ≤ k)

  -- some step gives n, and each gives a number of at most n
  abbrev pub IsGreatest : (p : S) → ((q : S) → a.Move p q → ℕ → Type 0) → ℕ → Type 0
  IsGreatest p gives n = ((q : S) × (m : a.Move p q) × gives q m n) × ((q : S) (m : a.Move p q) → (k : ℕ) × gives q m k × (k ≤ n))

  -- The mate column. A win is one ply from the least loss, a loss one ply from the greatest win where all are
  -- wins; at a draw no successor is lost, and the position is stalemate or some successor is drawn.
  abbrev pub Fits : (S → Value) → S → Value → Type 0
  Fits e p (Win zero) = ⊥
  Fits e p (Win (suc n)) = IsLeast p (λ q m k. e q ≡ Loss k) n
  Fits e p (Loss zero) = a.Checkmate p
  Fits e p (Loss (suc n)) = IsGreatest p (λ q m k. e q ≡ Win k) n
  Fits e p Draw = EachMove a p (λ q. (k : ℕ) → e q ≢ Loss k) × (IsStalemate a p ⊎ SomeMove a p (λ q. e q ≡ Draw))

  -- a step to a successor of that kind counts 0 if it zeroes, and else the successor's number
  abbrev pub Gives : (ℕ → Value) → (e z : S → Value) (p q : S) → a.Move p q → ℕ → Type 0
  Gives kind e z p q m k = ((i : ℕ) × (e q ≡ kind i)) × ((a.Zeroes p q m × (k ≡ 0)) ⊎ (¬ (a.Zeroes p q m) × (z q ≡ kind k)))

  -- the zeroing column z beside the mate column e: the same rule with these numbers
  abbrev pub FitsZeroing : (e z : S → Value) → S → Value → Type 0
  FitsZeroing e z p (Win zero) = ⊥
  FitsZeroing e z p (Win (suc n)) = IsLeast p (Gives Loss e z p) n
  FitsZeroing e z p (Loss zero) = a.Checkmate p
  FitsZeroing e z p (Loss (suc n)) = IsGreatest p (Gives Win e z p) n
  FitsZeroing e z p Draw = Unit {0}

  -- each entry of a class fits, and a step out of the class leads to where the entry is known to be true
  pub record JudgedOver (Own : S → Type 0) (e : S → Value) : Type 0 where
    pub ends : Ends a
    pub over : (p q : S) → Own p → a.Move p q → Own q ⊎ HasValue a q (e q)
    pub fits : (p : S) → Own p → Fits e p (e p)

  -- the zeroing column z beside e: a step out of the class leads to where z is known to be true, and each entry fits and is of e's kind
  pub record ZeroingJudgedOver (Own : S → Type 0) (e z : S → Value) : Type 0 where
    pub over : (p q : S) → Own p → a.Move p q → Own q ⊎ HasZeroing a q (z q)
    pub kind : (p : S) → Own p → SameKind (e p) (z p)
    pub fits : (p : S) → Own p → FitsZeroing e z p (z p)
