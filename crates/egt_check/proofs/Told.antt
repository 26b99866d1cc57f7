-- Tables as a function of positions.
use Rattle.std.proofs.Common.{◌≡◌, ℕ, Option, Some, None, sym, ap, ◌∙◌, subst, inl, inr, Bool, ◌<◌, refl}
use Rattle.egt_check.specs.Prelude.{Decided, IsOf, decided_admissible, Setup, IsAdmissible, IsIndex, Value, Draw}
use Rattle.egt_check.specs.Prelude.{Metric, TableValue, Facts, Tables, entry_at, HasEntry, ShowsOf, read, read_shown}

-- a table's entry of a position of its class
pub entry_there : (tables : Tables) (metric : Metric) (u : TableValue) (d : ℕ) (flipped : Bool) (p : Setup) (i : ℕ)
    → d < 36 → tables d ≡ Some u → IsOf d flipped p → IsIndex d p i → HasEntry tables metric p (entry_at u metric i)
entry_there tables metric u d flipped p i below found of is = record {
  class = d;
  below = below;
  flipped = flipped;
  of = of;
  table = u;
  found = found;
  index = i;
  is_index = is;
  is = refl;
}

module _ (facts : Facts) (tables : Tables) where
  value_in : Metric → ℕ → Option TableValue → Value
  value_in metric i None = Draw
  value_in metric i (Some t) = read (entry_at t metric i)

  value_of : Metric → (p : Setup) → Decided (IsAdmissible p) → Value
  value_of metric p (inl ok) =
      let own = facts.classes p ok in
      value_in metric (facts.some_index p own.0 own.1 own.2 ok own.3).0 (tables own.0)
  value_of metric p (inr not) = Draw

  -- what the position's entry shows; a draw where there is no entry, or it shows nothing
  pub value_at : Metric → Setup → Value
  value_at metric p = value_of metric p (decided_admissible p)

  entry_value : (metric : Metric) (p : Setup) (x : ℕ) → IsAdmissible p → (d : Decided (IsAdmissible p)) → HasEntry tables metric p x → value_of metric p d ≡ read x
  unfolding value_of value_in
  entry_value metric p x ok (inr not) e = absurd (not ok)
  entry_value metric p x ok (inl own_ok) e =
      let own = facts.classes p own_ok in
      let index = facts.some_index p own.0 own.1 own.2 own_ok own.3 in
      let same : own.0 ≡ e.class = facts.one_class p own.0 e.class own.1 e.flipped own.2 e.below own.3 e.of in
      let one : index.0 ≡ e.index = facts.one_index p e.class index.0 e.index ok (subst (λ c. IsIndex c p index.0) same index.1) e.is_index in
      ap (value_in metric index.0) (ap tables same ∙ e.found) ∙ ap (λ k. read (entry_at e.table metric k)) one
      ∙ ap read (sym e.is)

  -- what is shown of a position is told
  pub shown_told : (metric : Metric) (p : Setup) (v : Value) → IsAdmissible p → ShowsOf tables metric p v → value_at metric p ≡ v
  unfolding value_at
  shown_told metric p v ok shown = entry_value metric p shown.0 ok (decided_admissible p) shown.1 ∙ read_shown shown.0 v shown.2

  -- and what is told is shown, of a position of which anything is shown
  pub told_shown : (metric : Metric) (p : Setup) (v : Value) → IsAdmissible p → (w : Value) × ShowsOf tables metric p w → value_at metric p ≡ v → ShowsOf tables metric p v
  told_shown metric p v ok some told = subst (ShowsOf tables metric p) (sym (shown_told metric p some.0 ok some.1) ∙ told) some.1
