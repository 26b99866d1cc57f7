-- Two true tables of one class with the same columns.
use Rattle.std.proofs.Common.{◌≡◌, ℕ, ◌<◌, ◌⊎◌, true, List, length, Option, Some, None, refl, sym, ap, ◌∙◌, subst, inl}
use Rattle.std.proofs.Common.{inr}
use Rattle.egt_check.specs.Prelude.{is_some, IsIndex, HasReach, TableValue, entry_of, entries_in, entry_at, reach_at}
use Rattle.egt_check.specs.Prelude.{false≢true, ext_get_or, entries_or_none, reach_entry_of, IsTrueReach, IsTrueTable}
use Rattle.egt_check.specs.Prelude.{Setup, Spells, IsVoid, size_of, Value, chess, Metric, Mate, Zeroing, IsTable, Tells}
use Rattle.egt_table.specs.declared.column.Column.TheVariants as columns

-- what other laws say: a code is an index or void, and one thing is told of a position
pub record One : Type 0 where
  pub or_void : (c code : ℕ) → c < 36 → ((p : Setup) × Spells c code p × IsIndex c p code) ⊎ IsVoid c code
  pub told : (metric : Metric) (p : Setup) (v w : Value) → Tells metric p v → Tells metric p w → v ≡ w
  pub reach : (p : Setup) (x y : Option ℕ) → HasReach chess p x → HasReach chess p y → x ≡ y

same_table : (c c' : ℕ) (m m' z z' : List ℕ) (r r' : Option (List ℕ)) → c ≡ c' → m ≡ m' → z ≡ z' → r ≡ r'
    → ◌≡◌ {A = TableValue} (record { class = c; mate = m; zeroing = z; reach = r }) (record { class = c'; mate = m'; zeroing = z'; reach = r' })
same_table c c' m m' z z' r r' ec em ez er = cc

same_column : (x y : Option (List ℕ)) → is_some x ≡ is_some y → (is_some x ≡ true → entries_or_none x ≡ entries_or_none y) → x ≡ y
same_column (Some xs) (Some ys) both same = ap Some (same refl)
same_column (Some xs) None both same = absurd (false≢true (sym both))
same_column None (Some ys) both same = absurd (false≢true both)
same_column None None both same = refl

module _ (one : One) (t u : TableValue) (t_sized : IsTable t) (u_sized : IsTable u) (class : t.class ≡ u.class) (t_true : IsTrueTable t) (u_true : IsTrueTable u) where
  size : size_of t.class ≡ size_of u.class
  size = ap size_of class

  same_entry : (metric : Metric) (i : ℕ) → i < size_of t.class → entry_at t metric i ≡ entry_at u metric i
  same_entry metric i below = elim (one.or_void t.class i t_sized.class_in) [
    | inl h ↦
        let ok = h.1.admissible in
        let a = t_true.true metric h.0 i ok h.2 in
        let b = u_true.true metric h.0 i ok (subst (λ c. IsIndex c h.0 i) class h.2) in
        a.2.1 ∙ ap entry_of (one.told metric h.0 a.0 b.0 a.1 b.1) ∙ sym b.2.1
    | inr void ↦ t_true.void metric i below void ∙ sym (u_true.void metric i (subst (λ n. i < n) size below) (subst (λ c. IsVoid c i) class void))
  ]

  same_entries : (metric : Metric) → length (entries_in metric t) ≡ size_of t.class → length (entries_in metric u) ≡ size_of u.class → entries_in metric t ≡ entries_in metric u
  same_entries metric t_long u_long = ext_get_or 0 (entries_in metric t) (entries_in metric u) (t_long ∙ size ∙ sym u_long) (λ i lt. same_entry metric i (subst (λ n. i < n) t_long lt))

  same_number : IsTrueReach t → IsTrueReach u → (i : ℕ) → i < size_of t.class → reach_at t i ≡ reach_at u i
  same_number t_reach u_reach i below = elim (one.or_void t.class i t_sized.class_in) [
    | inl h ↦
        let ok = h.1.admissible in
        let a = t_reach.true h.0 i ok h.2 in
        let b = u_reach.true h.0 i ok (subst (λ c. IsIndex c h.0 i) class h.2) in
        a.2.1 ∙ ap reach_entry_of (one.reach h.0 a.0 b.0 a.1 b.1) ∙ sym b.2.1
    | inr void ↦ t_reach.void i below void ∙ sym (u_reach.void i (subst (λ n. i < n) size below) (subst (λ c. IsVoid c i) class void))
  ]

  same_numbers : is_some t.reach ≡ is_some u.reach → is_some t.reach ≡ true → entries_or_none t.reach ≡ entries_or_none u.reach
  same_numbers both has =
      let had : is_some u.reach ≡ true = sym both ∙ has in
      let t_long = t_sized.sizes columns.Reach has in
      let u_long = u_sized.sizes columns.Reach had in
      ext_get_or 0 (entries_or_none t.reach) (entries_or_none u.reach) (t_long ∙ size ∙ sym u_long)
      (λ i lt. same_number (t_true.reach has) (u_true.reach had) i (subst (λ n. i < n) t_long lt))

  pub equal_tables : is_some t.reach ≡ is_some u.reach → t ≡ u
  equal_tables both =
      same_table t.class u.class t.mate u.mate t.zeroing u.zeroing t.reach u.reach class
      (same_entries Mate (t_sized.sizes columns.Mate tt) (u_sized.sizes columns.Mate tt))
      (same_entries Zeroing (t_sized.sizes columns.Zeroing tt) (u_sized.sizes columns.Zeroing tt))
      (same_column t.reach u.reach both (same_numbers both))
