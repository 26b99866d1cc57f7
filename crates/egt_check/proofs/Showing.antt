-- Values that tables show of positions.
use Rattle.std.proofs.Common.{◌≡◌, ℕ, Option, Some, None, sym, ap, subst, ◌∙◌}
use Rattle.egt_check.specs.Prelude.{Setup, IsAdmissible, IsIndex, chess, Metric, Outcome, Shows, Facts, IsShownBy}
use Rattle.egt_check.specs.Prelude.{Tables, entry_at, HasEntry, ShowsOf, IsOne, IsShownOf, shown_once}

module _ (facts : Facts) (tables : Tables) (p : Setup) (ok : IsAdmissible p) where
  -- a position has one entry
  pub one_entry : (metric : Metric) (x y : ℕ) → HasEntry tables metric p x → HasEntry tables metric p y → x ≡ y
  one_entry metric x y a b =
      let class : a.class ≡ b.class = facts.one_class p a.class b.class a.flipped b.flipped a.below b.below a.of b.of in
      let found : Some a.table ≡ Some b.table = sym a.found ∙ ap tables class ∙ b.found in
      let table : a.table ≡ b.table = cc in
      let there : IsIndex b.class p a.index = subst (λ c. IsIndex c p a.index) class a.is_index in
      let index : a.index ≡ b.index = facts.one_index p b.class a.index b.index ok there b.is_index in
      a.is ∙ ap (λ t. entry_at t metric a.index) table ∙ ap (entry_at b.table metric) index ∙ sym b.is

  pub one_shown : IsOne (ShowsOf tables) p
  one_shown = record {
    one = λ metric v w a b. shown_once a.0 v w a.2 (subst (λ x. Shows x w) (one_entry metric b.0 a.0 b.1 a.1) b.2);
    short = λ metric v a. a.2.0;
  }

  -- the tables show of the position what its entry shows
  pub shown_of : (metric : Metric) (x : ℕ) (shown : Option Outcome) → HasEntry tables metric p x → IsShownBy x shown → IsShownOf (ShowsOf tables) metric p shown
  shown_of metric x (Some outcome) has shows = (x, has, shows)
  shown_of metric x None has none = λ v a. none v (subst (λ y. Shows y v) (one_entry metric a.0 x a.1 has) a.2)

-- and of each position after a step from one
pub one_after : (facts : Facts) (tables : Tables) (p : Setup) → IsAdmissible p → (q : Setup) → chess.Move p q → IsOne (ShowsOf tables) q
one_after facts tables p ok q step = one_shown facts tables q (facts.step_admissible p q step.0 ok step.1)
