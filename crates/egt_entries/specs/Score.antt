-- Scores of steps: one number a metric, so that the greatest over all steps says which entry is due.
use Rattle.std.specs.Prelude.{◌≡◌, ℕ, suc, ◌-◌, ◌≤◌, ◌⊎◌, ◌↔◌, Bool, true, false, max, Option, Some, None}
use Rattle.egt_moves.specs.Prelude.{Setup, Value, Win, Loss, Draw, IsStalemate, chess}
use Rattle.egt_entries.specs.declared.metric.Metric.{Metric}
use Rattle.egt_entries.specs.declared.metric.Metric.TheVariants.{Mate, Zeroing}
use Rattle.egt_entries.specs.declared.by_metric.ByMetric.{ByMetric}
use Rattle.egt_entries.specs.declared.outcome.Outcome.{Outcome}
use Rattle.egt_entries.specs.Entry.{longest, entry_of, Shows}
use Rattle.egt_entries.specs.Fits.{Shown, Counts, FitsBeside}
use Rattle.egt_entries.specs.declared.outcome.Outcome.TheVariants as outcomes

abbrev pub number_at : ByMetric → Metric → ℕ
number_at numbers Mate = numbers.mate
number_at numbers Zeroing = numbers.zeroing

abbrev pub value_of : Outcome → Value
value_of (outcomes.Win n) = Win n
value_of (outcomes.Loss n) = Loss n
value_of outcomes.Draw = Draw

-- what the entry shows, if it shows something
abbrev pub IsShownBy : ℕ → Option Outcome → Type 0
IsShownBy x (Some outcome) = Shows x (value_of outcome)
IsShownBy x None = (v : Value) → ¬ Shows x v

-- a step to a successor that is drawn says so, but not in the zeroing column, where nothing is asked of a draw
abbrev pub SaysDraw : Shown → Metric → Setup → Type 0
SaysDraw shows Mate q = shows Mate q Draw
SaysDraw shows Zeroing q = ⊥

-- what a step says: the number for which it counts, to a successor that is won or lost
abbrev pub Says : Shown → Metric → (p q : Setup) → chess.Move p q → Outcome → Type 0
Says shows metric p q m (outcomes.Win k) = Counts shows metric Win p q m k
Says shows metric p q m (outcomes.Loss k) = Counts shows metric Loss p q m k
Says shows metric p q m outcomes.Draw = SaysDraw shows metric q

-- its number has room in an entry
abbrev pub IsCounted : Outcome → Type 0
IsCounted (outcomes.Win k) = k ≤ longest
IsCounted (outcomes.Loss k) = k ≤ longest
IsCounted outcomes.Draw = Unit {0}

-- what a step says, or that it says nothing
abbrev pub IsSaid : Shown → Metric → (p q : Setup) → chess.Move p q → Option Outcome → Type 0
IsSaid shows metric p q m (Some outcome) = Says shows metric p q m outcome × IsCounted outcome
IsSaid shows metric p q m None = (outcome : Outcome) → ¬ Says shows metric p q m outcome

-- the sooner a loss comes, the higher; then a draw; then nothing; then wins, the later the higher
abbrev pub score_of : Option Outcome → ℕ
score_of (Some (outcomes.Loss k)) = 65000 - k
score_of (Some outcomes.Draw) = 32002
score_of None = 32001
score_of (Some (outcomes.Win k)) = k

-- whether it is a win or a loss
abbrev pub is_decisive : Option Outcome → Bool
is_decisive (Some (outcomes.Win k)) = true
is_decisive (Some (outcomes.Loss k)) = true
is_decisive (Some outcomes.Draw) = false
is_decisive None = false

-- the step has this score
pub record Scores (shows : Shown) (metric : Metric) (p q : Setup) (m : chess.Move p q) (score : ℕ) : Type 0 where
  pub said : Option Outcome
  pub is_said : IsSaid shows metric p q m said
  pub is : score ≡ score_of said

-- some step from p has this score, and none has a greater one
pub record IsBest (shows : Shown) (metric : Metric) (p : Setup) (best : ℕ) : Type 0 where
  pub next : Setup
  pub step : chess.Move p next
  pub reached : Scores shows metric p next step best
  pub passed : (q : Setup) (m : chess.Move p q) → (score : ℕ) × Scores shows metric p q m score × (score ≤ best)

-- what a step says in the zeroing column, by what the entries of its successor show: a step that zeroes counts 0
abbrev pub loss_in : Option Outcome → Option Outcome
loss_in (Some (outcomes.Loss k)) = Some (outcomes.Loss k)
loss_in (Some (outcomes.Win k)) = None
loss_in (Some outcomes.Draw) = None
loss_in None = None

abbrev pub win_in : Option Outcome → Option Outcome
win_in (Some (outcomes.Win k)) = Some (outcomes.Win k)
win_in (Some (outcomes.Loss k)) = None
win_in (Some outcomes.Draw) = None
win_in None = None

abbrev pub zeroing_said : (mate zeroing : Option Outcome) → Bool → Option Outcome
zeroing_said (Some (outcomes.Loss k)) zeroing true = Some (outcomes.Loss 0)
zeroing_said (Some (outcomes.Loss k)) zeroing false = loss_in zeroing
zeroing_said (Some (outcomes.Win k)) zeroing true = Some (outcomes.Win 0)
zeroing_said (Some (outcomes.Win k)) zeroing false = win_in zeroing
zeroing_said (Some outcomes.Draw) zeroing zeroes = None
zeroing_said None zeroing zeroes = None

-- the entry of a position without a step: checkmate or stalemate
abbrev pub IsAtEnd : Setup → ℕ → Type 0
IsAtEnd p x = (chess.Checkmate p × (x ≡ entry_of (Loss 0))) ⊎ (IsStalemate chess p × (x ≡ entry_of Draw))

-- the greater of two scores, if there are two
abbrev pub greater : Option ℕ → ℕ → ℕ
greater None score = score
greater (Some best) score = max best score

-- the entry one ply before the best that a step says, or 0, which shows nothing
abbrev pub entry_before : Option Outcome → ℕ
entry_before (Some (outcomes.Loss k)) = entry_of (Win (suc k))
entry_before (Some (outcomes.Win k)) = entry_of (Loss (suc k))
entry_before (Some outcomes.Draw) = entry_of Draw
entry_before None = 0

abbrev pub IsDueDraw : Shown → Metric → Setup → ℕ → Type 0
IsDueDraw shows Mate p x = FitsBeside shows Mate p Draw ↔ (x ≡ entry_of Draw)
IsDueDraw shows Zeroing p x = Unit {0}

-- no entry but x shows a value that fits the position; of a draw in the zeroing column nothing is said
pub record IsDue (shows : Shown) (metric : Metric) (p : Setup) (x : ℕ) : Type 0 where
  pub win : (n : ℕ) → FitsBeside shows metric p (Win n) ↔ (x ≡ entry_of (Win n))
  pub loss : (n : ℕ) → FitsBeside shows metric p (Loss n) ↔ (x ≡ entry_of (Loss n))
  pub draw : IsDueDraw shows metric p x
