-- Game values over any relation of legal steps: forced mate, and the defence against it.
-- Nothing here knows of chess: what is a step, what zeroes and what is checkmate is the arena's.
use Rattle.std.specs.Prelude.{◌≡◌, ℕ, zero, suc, ◌≤◌, ◌⊎◌, ◌↔◌, List, Option, Some, None}
use Rattle.std.specs.List.{Any}

-- positions, and how play goes from one to the next
pub record Arena (S : Type 0) : Type 1 where
  -- evidence of a legal step from p to q
  pub Move : S → S → Type 0
  -- the step zeroes: in chess a capture or the move of a pawn (FIDE Laws 2023, 9.3)
  pub Zeroes : (p q : S) → Move p q → Type 0
  -- the side to move is checkmated (FIDE Laws 2023, 5.1.1)
  pub Checkmate : S → Type 0

-- what a position is worth to the side to move: it mates, or is mated, in so many plies, or neither
pub data Value : Type 0 where
  Win : ℕ → Value
  Loss : ℕ → Value
  Draw : Value

module _ {S : Type 0} (a : Arena S) where
  -- there is a legal step
  abbrev pub HasMove : S → Type 0
  HasMove p = (q : S) × a.Move p q

  -- there is no legal step
  abbrev pub NoMove : S → Type 0
  NoMove p = (q : S) → a.Move p q → ⊥

  -- some legal step leads to such a position
  abbrev pub SomeMove : S → (S → Type 0) → Type 0
  SomeMove p P = (q : S) × a.Move p q × P q

  -- each legal step leads to such a position
  abbrev pub EachMove : S → (S → Type 0) → Type 0
  EachMove p P = (q : S) → a.Move p q → P q

  -- no legal step, and no checkmate (FIDE Laws 2023, 5.2.1)
  abbrev pub IsStalemate : S → Type 0
  IsStalemate p = NoMove p × ¬ (a.Checkmate p)

  -- checkmate leaves no legal step
  abbrev pub Ends : Type 0
  Ends = (p : S) → a.Checkmate p → NoMove p

  abbrev mutual
    -- whatever the side to move plays, it is checkmated within n plies
    pub IsMatedWithin : ℕ → S → Type 0
    IsMatedWithin zero p = a.Checkmate p
    IsMatedWithin (suc n) p = a.Checkmate p ⊎ (HasMove p × EachMove p (MatesWithin n))

    -- the side to move forces checkmate within n plies
    pub MatesWithin : ℕ → S → Type 0
    MatesWithin zero p = ⊥
    MatesWithin (suc n) p = SomeMove p (IsMatedWithin n)

  abbrev mutual
    -- the side to move can keep from being checkmated for n plies
    pub AvoidsMateFor : ℕ → S → Type 0
    AvoidsMateFor zero p = ¬ (a.Checkmate p)
    AvoidsMateFor (suc n) p = ¬ (a.Checkmate p) × (NoMove p ⊎ SomeMove p (CannotMateWithin n))

    -- whatever the side to move plays, the other side can keep from being checkmated for n plies
    pub CannotMateWithin : ℕ → S → Type 0
    CannotMateWithin zero p = Unit {0}
    CannotMateWithin (suc n) p = EachMove p (AvoidsMateFor n)

  -- the side to move can keep from being checkmated for less than n plies
  abbrev pub AvoidsMateBefore : ℕ → S → Type 0
  AvoidsMateBefore zero p = Unit {0}
  AvoidsMateBefore (suc n) p = AvoidsMateFor n p

  -- whatever the side to move plays, the other side can keep from being checkmated for less than n plies
  abbrev pub CannotMateBefore : ℕ → S → Type 0
  CannotMateBefore zero p = Unit {0}
  CannotMateBefore (suc n) p = CannotMateWithin n p

  -- the side to move can force checkmate
  abbrev pub IsWon : S → Type 0
  IsWon p = (n : ℕ) × MatesWithin n p

  -- the side to move cannot escape checkmate
  abbrev pub IsLost : S → Type 0
  IsLost p = (n : ℕ) × IsMatedWithin n p

  -- neither side can force checkmate
  abbrev pub IsDraw : S → Type 0
  IsDraw p = (n : ℕ) → AvoidsMateFor n p × CannotMateWithin n p

  -- n is reached by the winner, and the defender holds out for all that is less
  abbrev pub HasValue : S → Value → Type 0
  HasValue p (Win zero) = ⊥
  HasValue p (Win (suc n)) = MatesWithin (suc n) p × CannotMateWithin n p
  HasValue p (Loss zero) = a.Checkmate p
  HasValue p (Loss (suc n)) = IsMatedWithin (suc n) p × AvoidsMateFor n p
  HasValue p Draw = IsDraw p

  -- what a search of n plies tells: a win or loss of at most n plies, or that there is none
  abbrev pub AnswersWithin : ℕ → S → Option Value → Type 0
  AnswersWithin n p (Some (Win k)) = HasValue p (Win k) × (k ≤ n)
  AnswersWithin n p (Some (Loss k)) = HasValue p (Loss k) × (k ≤ n)
  AnswersWithin n p (Some Draw) = ⊥
  AnswersWithin n p None = AvoidsMateFor n p × CannotMateWithin n p

  -- a legal step, with where it leads
  abbrev pub Next : S → Type 0
  Next p = (q : S) × a.Move p q

  -- both lead to the same position, and both zero or neither does
  abbrev pub SameStep : (p : S) → Next p → Next p → Type 0
  SameStep p s t = (s.0 ≡ t.0) × (a.Zeroes p s.0 s.1 ↔ a.Zeroes p t.0 t.1)

  -- the steps from each position are a finite list, and checkmate and zeroing can be told
  pub record Successors : Type 0 where
    pub steps : (p : S) → List (Next p)
    pub complete : (p q : S) (m : a.Move p q) → Any (λ s. SameStep p s (q, m)) (steps p)
    pub checkmate : (p : S) → a.Checkmate p ⊎ ¬ (a.Checkmate p)
    pub zeroes : (p q : S) (m : a.Move p q) → a.Zeroes p q m ⊎ ¬ (a.Zeroes p q m)
