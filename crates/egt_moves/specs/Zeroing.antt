-- How soon the winner forces a capture, the move of a pawn, or checkmate, staying a winner by it.
use Rattle.std.specs.Prelude.{ℕ, zero, suc, ◌⊎◌}
use Rattle.egt_moves.specs.WinLossDraw.{Arena, Value, Win, Loss, Draw, HasMove, IsWon, IsLost, IsDraw}

module _ {S : Type 0} (a : Arena S) where
  abbrev mutual
    -- each step leads to a won position, and zeroes or goes on within n
    pub ZeroesLosingWithin : ℕ → S → Type 0
    ZeroesLosingWithin zero p = a.Checkmate p
    ZeroesLosingWithin (suc n) p = a.Checkmate p ⊎ (HasMove a p × ((q : S) (m : a.Move p q) → IsWon a q × (a.Zeroes p q m ⊎ ZeroesWinningWithin n q)))

    -- some step leads to a lost position, and zeroes or goes on within n
    pub ZeroesWinningWithin : ℕ → S → Type 0
    ZeroesWinningWithin zero p = ⊥
    ZeroesWinningWithin (suc n) p = (q : S) × (m : a.Move p q) × IsLost a q × (a.Zeroes p q m ⊎ ZeroesLosingWithin n q)

  -- the zeroing distance, with the kind of the position's value: within n, and not within less
  abbrev pub HasZeroing : S → Value → Type 0
  HasZeroing p (Win zero) = ⊥
  HasZeroing p (Win (suc n)) = IsWon a p × ZeroesWinningWithin (suc n) p × ¬ (ZeroesWinningWithin n p)
  HasZeroing p (Loss zero) = a.Checkmate p
  HasZeroing p (Loss (suc n)) = IsLost a p × ZeroesLosingWithin (suc n) p × ¬ (ZeroesLosingWithin n p)
  HasZeroing p Draw = IsDraw a p
