-- The best score of some moves and of what was best before them.
use Rattle.std.specs.Prelude.{◌≡◌, ℕ, ◌≤◌, ◌⊎◌, Option, Some, None}
use Rattle.egt_moves.specs.Prelude.{option_map, Setup, chess, Leads}
use Rattle.egt_moves.specs.declared.chess_move.Move.{Move}
use Rattle.egt_entries.specs.declared.metric.Metric.{Metric}
use Rattle.egt_entries.specs.Fits.{Shown}
use Rattle.egt_entries.specs.declared.by_metric.ByMetric.{ByMetric}
use Rattle.egt_entries.specs.Score.{number_at, Scores}

-- the score is at most the best
abbrev pub AtMost : ℕ → Option ℕ → Type 0
AtMost score None = ⊥
AtMost score (Some best) = score ≤ best

-- the best is the score of some step
pub record IsReached (shows : Shown) (metric : Metric) (p : Setup) (best : Option ℕ) : Type 0 where
  pub score : ℕ
  pub is : best ≡ Some score
  pub next : Setup
  pub step : chess.Move p next
  pub reached : Scores shows metric p next step score

-- the new best is the old one or a step's, and neither the old one nor a score of these moves is greater
pub record IsRaised (shows : Shown) (metric : Metric) (p : Setup) (Among : Move → Type 0) (old new : Option ℕ) : Type 0 where
  pub kept : (score : ℕ) → old ≡ Some score → AtMost score new
  pub from : (new ≡ old) ⊎ IsReached shows metric p new
  pub passed : (q : Setup) (m : Move) (leads : Leads p m q) → Among m → (score : ℕ) × Scores shows metric p q (m, leads) score × AtMost score new

-- the best in one metric
abbrev pub best_in : Metric → Option ByMetric → Option ℕ
best_in metric best = option_map (λ numbers. number_at numbers metric) best

-- both numbers are raised, each in its metric
abbrev pub AreRaised : Shown → Setup → (Move → Type 0) → Option ByMetric → Option ByMetric → Type 0
AreRaised shows p Among old new = (metric : Metric) → IsRaised shows metric p Among (best_in metric old) (best_in metric new)
