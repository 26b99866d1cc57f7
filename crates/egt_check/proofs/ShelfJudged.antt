-- The positions of a shelf, by what a spread tells, and the judgement of their entries.
use Rattle.std.proofs.Common.{◌≡◌, ℕ, None, subst}
use Rattle.egt_check.specs.Prelude.{Setup, Spells, IsVoid, TableValue, Metric, Mate, Zeroing, ByMetric, Finds, IsJudged}
use Rattle.egt_check.specs.Prelude.{IsDue, number_at, Tables, ShowsOf, entry_at}
use Rattle.egt_check.proofs.FirstRule.{judged}

-- entries that are due are right
pub right_judged : (tables : Tables) (t : TableValue) (i : ℕ) (p : Setup) → Spells t.class i p → ((q : Setup) → Spells t.class i q → q ≡ p) → ¬ IsVoid t.class i → (entries due : ByMetric) → ((metric : Metric) → number_at entries metric ≡ entry_at t metric i)
    → ((metric : Metric) → IsDue (ShowsOf tables) metric p (number_at due metric)) → Finds Mate entries.mate entries.mate due.mate None → Finds Zeroing entries.mate entries.zeroing due.zeroing None → (metric : Metric) → IsJudged tables t metric i None
right_judged tables t i p spelled alone index entries due is is_due mate zeroing Mate =
    judged tables t i p spelled alone index Mate due.mate (is_due Mate) None (subst (λ (x : ℕ). Finds Mate x x due.mate None) (is Mate) mate)
right_judged tables t i p spelled alone index entries due is is_due mate zeroing Zeroing =
    judged tables t i p spelled alone index Zeroing due.zeroing (is_due Zeroing) None
    (subst (λ (x : ℕ). Finds Zeroing (entry_at t Mate i) x due.zeroing None) (is Zeroing) (subst (λ (x : ℕ). Finds Zeroing x entries.zeroing due.zeroing None) (is Mate) zeroing))
