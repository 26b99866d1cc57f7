-- One index more is judged.
use Rattle.std.proofs.Common.{◌≡◌, ℕ, ◌+◌, inl, inr, Option, Some, None, subst, arith}
use Rattle.egt_entries.specs.Prelude.{cases_lt, Metric, Mate, Zeroing, TableValue, Rule, earlier, IsFirstBad, Keeps}
use Rattle.egt_entries.specs.Prelude.{KeepsReach, IsJudged, IsJudgedBy, KeepsBelow, KeepsReachBelow, Tables}

module _ (tables : Tables) (t : TableValue) where
  pub keeps_more : (metric : Metric) (n : ℕ) → KeepsBelow tables t metric n → IsJudged tables t metric n None → KeepsBelow tables t metric (n + 1)
  keeps_more metric n before kept = λ i lt rule. elim (cases_lt i n) [
    | inl below ↦ before i below rule
    | inr ge ↦ let last : n ≡ i = omega arith in subst (λ j. Keeps tables t metric j rule) last (kept rule)
  ]

  pub first_bad_more : (n : ℕ) (known : Option (ℕ × Rule)) (rule : Option Rule) → IsFirstBad tables t n known → IsJudged tables t Zeroing n rule → IsFirstBad tables t (n + 1) (earlier known n rule)
  first_bad_more n (Some bad) rule first judged = (omega (arith, first.0), first.1, first.2)
  first_bad_more n None (Some rule) keeps breaks = (omega arith, keeps, breaks)
  first_bad_more n None None keeps kept = keeps_more Zeroing n keeps kept

  pub keeps_both : (n : ℕ) → KeepsBelow tables t Mate n → KeepsBelow tables t Zeroing n → (metric : Metric) → KeepsBelow tables t metric n
  keeps_both n mate zeroing Mate = mate
  keeps_both n mate zeroing Zeroing = zeroing

  pub keeps_reach_more : (n : ℕ) → KeepsReachBelow tables t n → IsJudgedBy (KeepsReach tables t n) None → KeepsReachBelow tables t (n + 1)
  keeps_reach_more n before kept = λ i lt rule. elim (cases_lt i n) [
    | inl below ↦ before i below rule
    | inr ge ↦ let last : n ≡ i = omega arith in subst (λ j. KeepsReach tables t j rule) last (kept rule)
  ]
