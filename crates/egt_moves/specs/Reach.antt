-- How far the nearest checkmate is by any legal steps of both sides, and positions from which there is none.
use Rattle.std.specs.Prelude.{◌≡◌, ℕ, zero, suc, ◌⊎◌, Option, Some, None}
use Rattle.egt_moves.specs.WinLossDraw.{Arena, SomeMove, EachMove}
use Rattle.egt_moves.specs.Entries.{IsLeast}

module _ {S : Type 0} (a : Arena S) where
  -- some line of at most n legal steps, of both sides, ends in checkmate of either
  abbrev pub ReachesMateWithin : ℕ → S → Type 0
  ReachesMateWithin zero p = a.Checkmate p
  ReachesMateWithin (suc n) p = a.Checkmate p ⊎ SomeMove a p (ReachesMateWithin n)

  -- no line of less than n does
  abbrev pub ReachesNoMateBefore : ℕ → S → Type 0
  ReachesNoMateBefore zero p = Unit {0}
  ReachesNoMateBefore (suc n) p = ¬ (ReachesMateWithin n p)

  -- neither side can reach checkmate by any legal steps (FIDE Laws of Chess 2023, article 5.2.2)
  abbrev pub IsDead : S → Type 0
  IsDead p = (n : ℕ) → ¬ (ReachesMateWithin n p)

  -- the least number of plies in which a line ends in checkmate, or that there is none
  abbrev pub HasReach : S → Option ℕ → Type 0
  HasReach p (Some n) = ReachesMateWithin n p × ReachesNoMateBefore n p
  HasReach p None = IsDead p

  -- Entries: checkmate is reached in no ply, else in one ply more than the least of the successors; where no successor shows a number,
  -- there is none.
  abbrev pub FitsReach : (S → Option ℕ) → S → Option ℕ → Type 0
  FitsReach e p (Some zero) = a.Checkmate p
  FitsReach e p (Some (suc n)) = ¬ (a.Checkmate p) × IsLeast a p (λ q m k. e q ≡ Some k) n
  FitsReach e p None = ¬ (a.Checkmate p) × EachMove a p (λ q. e q ≡ None)

  -- each entry of a class fits, and a step out of the class leads to where the entry is known to be true
  pub record ReachJudgedOver (Own : S → Type 0) (e : S → Option ℕ) : Type 0 where
    pub over : (p q : S) → Own p → a.Move p q → Own q ⊎ HasReach q (e q)
    pub fits : (p : S) → Own p → FitsReach e p (e p)
