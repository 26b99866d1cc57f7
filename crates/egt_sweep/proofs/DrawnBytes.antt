-- Columns in which all positions are drawn have bytes of their own.
use Rattle.std.proofs.Common.{◌≡◌, ℕ, ◌<◌, ◌∙◌, arith, ap}
use Rattle.egt_sweep.specs.FillPrelude.{IsVoid, size_of, TableValue, entries_or_none, near_entry, entry_at, Metric, Mate}
use Rattle.egt_sweep.specs.FillPrelude.{Zeroing, AreAlike, IsKnown, table_in, HasBytes, near_at, IsDrawn, IsDrawnAt}
use Rattle.egt_check.specs.declared.part.Part.TheVariants as parts

known : (entry : ℕ) → entry ≡ 1 → IsKnown entry
known entry is = record { some = λ none. omega (arith, is, none); other = λ two. omega (arith, is, two); low = omega (arith, is) }

alike : (mate zeroing : ℕ) → mate ≡ 1 → zeroing ≡ 1 → AreAlike mate zeroing
alike mate zeroing first second = record {
  mate_known = known mate first;
  zeroing_known = known zeroing second;
  parity = omega (arith, first, second);
  drawn = (λ is. second, λ is. first);
}

module _ (t : TableValue) (mate : IsDrawn t.class t.mate) (zeroing : IsDrawn t.class t.zeroing) where
  void : (metric : Metric) (i : ℕ) → i < size_of t.class → IsVoid t.class i → entry_at t metric i ≡ 0
  void Mate i below is = (mate i below).void is
  void Zeroing i below is = (zeroing i below).void is

  pub values_known : HasBytes t
  values_known = record { void = void; alike = λ i below is. alike (entry_at t Mate i) (entry_at t Zeroing i) ((mate i below).index is) ((zeroing i below).index is) }

module _ (t : TableValue) (drawn : IsDrawn t.class (entries_or_none t.reach)) where
  -- as it is read
  read : (i : ℕ) → i < size_of t.class → IsDrawnAt t.class (table_in parts.Reach t).mate i
  read i below = record {
    void = λ is. near_at t i ∙ ap near_entry ((drawn i below).void is);
    index = λ is. near_at t i ∙ ap near_entry ((drawn i below).index is);
  }

  pub reach_known : HasBytes (table_in parts.Reach t)
  reach_known = values_known (table_in parts.Reach t) read read
