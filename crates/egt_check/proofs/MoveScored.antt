-- The score of a legal move, by the entries of its successor.
use Rattle.std.proofs.Common.{◌≡◌, ◌↔◌, Bool, IsTrue, Option, subst}
use Rattle.egt_check.specs.Prelude.{Setup, IsAdmissible, Move, Zeroes, leads_to_one, Leads, Metric, Mate, Zeroing}
use Rattle.egt_check.specs.Prelude.{ByMetric, Outcome, Facts, number_at, IsShownBy, IsSaid, score_of, Scores}
use Rattle.egt_check.specs.Prelude.{zeroing_said, Tables, HasEntry, ShowsOf, mate_said, zeroing_is_said}
use Rattle.egt_check.proofs.Showing.{one_shown, shown_of}

-- the entries of the position that the move leads to, what they show, and whether the move zeroes
pub record Seen (tables : Tables) (p : Setup) (m : Move) (entries : ByMetric) (mate zeroing : Option Outcome) (zeroes : Bool) : Type 0 where
  pub next : Setup
  pub leads : Leads p m next
  pub has : (metric : Metric) → HasEntry tables metric next (number_at entries metric)
  pub mate_shown : IsShownBy entries.mate mate
  pub zeroing_shown : IsShownBy entries.zeroing zeroing
  pub zeroes_is : IsTrue zeroes ↔ Zeroes p m

-- what the move says in each column
abbrev pub said_in : Metric → (mate zeroing : Option Outcome) → Bool → Option Outcome
said_in Mate mate zeroing zeroes = mate
said_in Zeroing mate zeroing zeroes = zeroing_said mate zeroing zeroes

module _ (facts : Facts) (tables : Tables) (p : Setup) (ok : IsAdmissible p) (m : Move) (entries : ByMetric) (mate zeroing : Option Outcome) (zeroes : Bool) (seen : Seen tables p m entries mate zeroing zeroes) where
  pub said_by : (metric : Metric) (q : Setup) (leads : Leads p m q) → IsSaid (ShowsOf tables) metric p q (m, leads) (said_in metric mate zeroing zeroes)
  said_by metric q leads = at metric
    where
      fine : IsAdmissible q
      fine = facts.step_admissible p q m ok leads

      has : (metric : Metric) → HasEntry tables metric q (number_at entries metric)
      has metric = subst (λ r. HasEntry tables metric r (number_at entries metric)) (leads_to_one p seen.next q m seen.leads leads) (seen.has metric)

      at : (metric : Metric) → IsSaid (ShowsOf tables) metric p q (m, leads) (said_in metric mate zeroing zeroes)
      at Mate = mate_said (ShowsOf tables) p q (m, leads) (one_shown facts tables q fine) mate (shown_of facts tables q fine Mate entries.mate mate (has Mate) seen.mate_shown)
      at Zeroing =
          zeroing_is_said (ShowsOf tables) p q (m, leads) (one_shown facts tables q fine) mate zeroing zeroes
          (shown_of facts tables q fine Mate entries.mate mate (has Mate) seen.mate_shown)
          (shown_of facts tables q fine Zeroing entries.zeroing zeroing (has Zeroing) seen.zeroing_shown) seen.zeroes_is

  -- so the move has these scores
  pub scores_by : (scores : ByMetric) → scores.mate ≡ score_of mate → scores.zeroing ≡ score_of (zeroing_said mate zeroing zeroes) → (metric : Metric) (q : Setup) (leads : Leads p m q) → Scores (ShowsOf tables) metric p q (m, leads) (number_at scores metric)
  scores_by scores e z Mate q leads = record { said = mate; is_said = said_by Mate q leads; is = e }
  scores_by scores e z Zeroing q leads = record { said = zeroing_said mate zeroing zeroes; is_said = said_by Zeroing q leads; is = z }
