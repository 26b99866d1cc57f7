-- The value that fits beside those that the successors show. One look forward, no search.
use Rattle.std.specs.Prelude.{◌≡◌, ℕ, zero, suc, ◌⊎◌}
use Rattle.egt_moves.specs.Prelude.{Setup, Value, Win, Loss, Draw, SomeMove, EachMove, IsStalemate, chess}
use Rattle.egt_moves.specs.Entries.{IsLeast, IsGreatest}
use Rattle.egt_entries.specs.declared.metric.Metric.{Metric}
use Rattle.egt_entries.specs.declared.metric.Metric.TheVariants.{Mate, Zeroing}

-- what is shown of positions in each column
abbrev pub Shown : Type 1
Shown = Metric → Setup → Value → Type 0

-- the number for which a step counts, to a successor of that kind: in the mate column the successor's; in the zeroing column 0 where
-- the step zeroes, and else the successor's
abbrev pub Counts : Shown → Metric → (ℕ → Value) → (p q : Setup) → chess.Move p q → ℕ → Type 0
Counts shows Mate kind p q m k = shows Mate q (kind k)
Counts shows Zeroing kind p q m k =
    ((i : ℕ) × shows Mate q (kind i)) × ((chess.Zeroes p q m × (k ≡ 0)) ⊎ (¬ (chess.Zeroes p q m) × shows Zeroing q (kind k)))

-- no successor is lost, and the position is stalemate or some successor is drawn; in the zeroing column nothing is asked of a draw
abbrev pub IsHeldDraw : Shown → Metric → Setup → Type 0
IsHeldDraw shows Mate p = EachMove chess p (λ q. (k : ℕ) → ¬ shows Mate q (Loss k)) × (IsStalemate chess p ⊎ SomeMove chess p (λ q. shows Mate q Draw))
IsHeldDraw shows Zeroing p = Unit {0}

-- a win is one ply from the least number of a lost successor; a loss is checkmate, or all successors are won and it is one ply from
-- their greatest number
abbrev pub FitsBeside : Shown → Metric → Setup → Value → Type 0
FitsBeside shows metric p (Win zero) = ⊥
FitsBeside shows metric p (Win (suc n)) = IsLeast chess p (Counts shows metric Loss p) n
FitsBeside shows metric p (Loss zero) = chess.Checkmate p
FitsBeside shows metric p (Loss (suc n)) = IsGreatest chess p (Counts shows metric Win p) n
FitsBeside shows metric p Draw = IsHeldDraw shows metric p
