-- Whether the mates of a true table are within a limit.
use Rattle.std.proofs.Common.{◌≡◌, ℕ, ◌+◌, ◌*◌, ◌<◌, ◌≤◌, ◌⊎◌, inl, inr, subst, arith}
use Rattle.egt_sweep.specs.Prelude.{Setup, IsAdmissible, Spells, IsIndex, IsVoid, size_of, Value, HasValue, chess}
use Rattle.egt_sweep.specs.Prelude.{Shows, entry_at, IsTrueTable, Mate, TableValue, AllWithinLimit, IsAboveLimit}
use Rattle.egt_sweep.specs.Prelude.{IsWithinLimit, SomeAboveLimit, Laws}

shown_within : (x limit : ℕ) (v : Value) → Shows x v → x ≤ 3 + 2 * limit → IsWithinLimit limit v
shown_within x limit h2 shows le = grind arith

shown_above : (x limit : ℕ) (v : Value) → Shows x v → 3 + 2 * limit < x → IsAboveLimit limit v
shown_above x limit h2 shows lt = grind arith

module _ (laws : Laws) (t : TableValue) (below : t.class < 36) (truth : IsTrueTable t) (limit : ℕ) where
  -- where no mate entry is above that of a loss at the limit
  pub all_within : ((p : Setup) (v w : Value) → HasValue chess p v → HasValue chess p w → v ≡ w) → ((i : ℕ) → i < size_of t.class → entry_at t Mate i ≤ 3 + 2 * limit) → AllWithinLimit t.class limit
  all_within one within p flipped v ok of has =
      let (i, is) = laws.facts.some_index p t.class flipped below ok of in
      let told = truth.true Mate p i ok is in
      subst (IsWithinLimit limit) (one p told.0 v told.1 has) (shown_within (entry_at t Mate i) limit told.0 told.2 (within i (laws.facts.index_below p t.class i is)))

  -- where one is
  pub some_above : (i : ℕ) → i < size_of t.class → 3 + 2 * limit < entry_at t Mate i → SomeAboveLimit t.class limit
  some_above i lt above = of_code (laws.index_or_void t.class i below)
    where
      of_code : ((p : Setup) × Spells t.class i p × IsIndex t.class p i) ⊎ IsVoid t.class i → SomeAboveLimit t.class limit
      of_code (inl (p, spells, is)) =
          let ok : IsAdmissible p = spells.admissible in
          let own = laws.indexed_class p t.class i ok is in
          let told = truth.true Mate p i ok is in
          record {
            position = p;
            admissible = ok;
            flipped = own.0;
            of = own.1;
            value = told.0;
            has_value = told.1;
            above = shown_above (entry_at t Mate i) limit told.0 told.2 above;
          }
      of_code (inr void) = absurd (let none = truth.void Mate i lt void in omega (arith, none, above))
