-- Positions to which the moves that leave a class lead.
use Rattle.std.proofs.Common.{◌≡◌, ◌≢◌, ℕ, zero, suc, ◌-◌, ◌/◌, ◌%◌, ◌<◌, ◌≤◌, Bool, true, false, List, if◌then◌else◌}
use Rattle.std.proofs.Common.{Option, Some, None, IsSome, IfSome, eqb, refl, sym, ap, ◌∙◌, subst, inl, inr, arith}
use Rattle.egt_sweep.specs.Prelude.{⊎_elim, cases_eq, eqb-true, eq-eqb, Contains, is_some, option_map, Setup}
use Rattle.egt_sweep.specs.Prelude.{IsAdmissible, children_of, IsOf, IsIndex, Value, Win, Loss, Draw, Zeroes, Leads}
use Rattle.egt_sweep.specs.Prelude.{played, Move, Metric, Mate, TableValue, Shows, read, read_shown, Tables, entry_at}
use Rattle.egt_sweep.specs.Prelude.{beside, HasChildren, near_if, near_of, near_tables, metric_of, known, Knows, GoesOn}
use Rattle.egt_sweep.specs.Prelude.{mate_table, Objective, Laws, index_in, plies_left, exit_of, shown_in, shown_below}
use Rattle.egt_sweep.specs.Prelude.{or_else, goes_on, exit_by}
use Rattle.egt_graph.specs.declared.game.Exit.TheVariants as exits
use Rattle.egt_sweep.specs.declared.objective.Objective.TheVariants as objectives
use Rattle.egt_sweep.proofs.Linked.{index_is, goes_is}
use Rattle.egt_sweep.proofs.Staying.{quiet_goes_on}

-- the exit of the value that an entry shows
draw_shown : (x : ℕ) (v : Value) → Shows x v → x ≡ 1 → v ≡ Draw
draw_shown x h1 s e = grind arith

win_shown : (x : ℕ) (v : Value) → Shows x v → x % 2 ≡ 0 → v ≡ Win ((x - 2) / 2)
win_shown x h1 s e = grind arith

loss_shown : (x : ℕ) (v : Value) → Shows x v → x ≢ 1 → x % 2 ≢ 0 → v ≡ Loss ((x - 3) / 2)
loss_shown x h1 s ne odd = grind arith

pub exit_draw : (metric : Metric) (x : ℕ) (v : Value) → Shows x v → x ≡ 1 → exits.Draw ≡ exit_of metric (read x)
exit_draw metric x v s e = sym (ap (exit_of metric) (read_shown x v s ∙ draw_shown x v s e))

pub exit_win : (metric : Metric) (x n : ℕ) (v : Value) → Shows x v → x % 2 ≡ 0 → n ≡ plies_left metric ((x - 2) / 2) → exits.Win n ≡ exit_of metric (read x)
exit_win metric x n v s e told = ap exits.Win told ∙ sym (ap (exit_of metric) (read_shown x v s ∙ win_shown x v s e))

pub exit_loss : (metric : Metric) (x n : ℕ) (v : Value) → Shows x v → x ≢ 1 → x % 2 ≢ 0 → n ≡ plies_left metric ((x - 3) / 2) → exits.Loss n ≡ exit_of metric (read x)
exit_loss metric x n v s ne odd told = ap exits.Loss told ∙ sym (ap (exit_of metric) (read_shown x v s ∙ loss_shown x v s ne odd))

module _ (laws : Laws) where
  pub none_in : (c n : ℕ) (q : Setup) (flipped : Bool) → c < 36 → n < 36 → IsAdmissible q → IsOf c flipped q → n ≢ c → (o : Option ℕ) → o ≡ index_in n q → o ≡ None
  none_in c n q flipped c_in n_in ok of other None e = refl
  none_in c n q flipped c_in n_in ok of other (Some i) e =
      let own = laws.indexed_class q n i ok ((index_is laws n i q ok).0 (sym e)) in
      absurd (other (laws.facts.one_class q n c own.0 flipped n_in c_in own.1 of))

module _ (laws : Laws) (tables : Tables) where
  skipped : (o : Option TableValue) (i : Option ℕ) (v : Value) → i ≡ None → or_else (shown_in o i) v ≡ v
  skipped o None v e = of_table o
    where
      of_table : (o : Option TableValue) → or_else (shown_in o None) v ≡ v
      of_table None = refl
      of_table (Some t) = refl
  skipped o (Some i) v e = absurd (let x : Some i ≡ None = e in cc)

  -- what the table of the position's class shows of it
  pub shown_is : (c i : ℕ) (t : TableValue) (q : Setup) (flipped : Bool) → c < 36 → IsAdmissible q → IsOf c flipped q → tables c ≡ Some t → IsIndex c q i →
      (n : ℕ) → c < n → n ≤ 36 → shown_below tables n q ≡ read (entry_at t Mate i)
  unfolding shown_below
  shown_is c i t q flipped c_in ok of found is zero lt le = absurd (omega (arith, lt))
  shown_is c i t q flipped c_in ok of found is (suc n) lt le = elim (cases_eq n c) [
    | inl e ↦
        let table : tables n ≡ Some t = ap tables e ∙ found in
        let index : index_in n q ≡ Some i = ap (λ k. index_in k q) e ∙ (index_is laws c i q ok).1 is in
        ap (λ o. or_else (shown_in o (index_in n q)) (shown_below tables n q)) table ∙ ap (λ k. or_else (shown_in (Some t) k) (shown_below tables n q)) index
    | inr other ↦
        skipped (tables n) (index_in n q) (shown_below tables n q) (none_in laws c n q flipped c_in (omega (arith, le)) ok of other (index_in n q) refl)
        ∙ shown_is c i t q flipped c_in ok of found is n (omega (arith, lt, other)) (omega (arith, le))
  ]

-- ---- the exit of a move

module _ (laws : Laws) (tables : Tables) (metric : Metric) (c : ℕ) (p q : Setup) (m : Move) (ok : IsAdmissible p) (leads : Leads p m q) where
  q_ok : IsAdmissible q
  q_ok = laws.facts.step_admissible p q m ok leads

  exit_is : (b : Bool) → goes_on metric c p m q ≡ b → exit_by tables metric c p m (played p m) ≡ (if b then None else Some (exit_of metric (shown_below tables 36 q)))
  exit_is b e = ap (exit_by tables metric c p m) ((laws.played p q m).0 leads) ∙ ap (λ (x : Bool). if x then None else Some (exit_of metric (shown_below tables 36 q))) e

  -- one that goes on has none
  pub on_no_exit : GoesOn metric c p m q → exit_by tables metric c p m (played p m) ≡ None
  on_no_exit on = exit_is true ((goes_is laws metric c p q m q_ok).1 on)

  pub quiet_no_exit : c < 36 → (flipped : Bool) × IsOf c flipped p → ¬ Zeroes p m → exit_by tables metric c p m (played p m) ≡ None
  quiet_no_exit c_in of quiet = on_no_exit (quiet_goes_on laws c metric p q m c_in ok q_ok of leads quiet)

  goes_false : ¬ GoesOn metric c p m q → (b : Bool) → goes_on metric c p m q ≡ b → b ≡ false
  goes_false off true e = absurd (off ((goes_is laws metric c p q m q_ok).0 e))
  goes_false off false e = refl

  -- any other what the tables show of where it leads
  pub off_exit : ¬ GoesOn metric c p m q → exit_by tables metric c p m (played p m) ≡ Some (exit_of metric (shown_below tables 36 q))
  off_exit off = exit_is false (goes_false off (goes_on metric c p m q) refl)

pub mapped_some : {A B : Type 0} (f : A → B) (o : Option A) (x : Option B) → option_map f o ≡ x → IsSome x → IsSome o
mapped_some f h1 x e some = grind arith

pub mapped_found : {A B : Type 0} (f : A → B) (o : Option A) (a : A) (x : Option B) → option_map f o ≡ x → o ≡ Some a → x ≡ Some (f a)
mapped_found f o a x e is = sym e ∙ ap (option_map f) is

-- where a move leaves the class, it leads to a child, which has its table
pub child_there : (laws : Laws) (tables : Tables) (c : ℕ) (p q : Setup) (m : Move) → c < 36 → IsAdmissible p → (flipped : Bool) × IsOf c flipped p → HasChildren tables c → Leads p m q → ¬ GoesOn Mate c p m q →
    (d : ℕ) (flipped : Bool) → d < 36 → IsOf d flipped q → IsSome (tables d)
child_there laws tables c p q m c_in ok of children leads off d flipped d_in d_of = ⊎_elim
    (λ (own : IsOf c of.0 q). absurd (off (laws.facts.some_index q c of.0 c_in q_ok own)))
    (λ (child : (e : ℕ) × (turned : Bool) × Contains (children_of c) e × IsOf e turned q).
    let below = laws.facts.child_below c child.0 c_in child.2 in
    let same = laws.facts.one_class q child.0 d child.1 flipped (omega (arith, below, c_in)) d_in child.3 d_of in
    subst (λ e. IsSome (tables e)) same (children child.0 child.2))
    (laws.facts.step_class p q m c of.0 c_in ok of.1 leads)
  where
    q_ok : IsAdmissible q
    q_ok = laws.facts.step_admissible p q m ok leads

beside_some : (t : TableValue) (o : Option TableValue) (b : Bool) → IsSome o → IsSome (if b then Some t else o)
beside_some t o h2 some = grind arith

-- the table of its own class
pub beside_own : (tables : Tables) (t : TableValue) → beside tables t t.class ≡ Some t
beside_own tables t = ap (λ (b : Bool). if b then Some t else tables t.class) (eq-eqb t.class t.class refl)

test_false : (m n : ℕ) → m ≢ n → (b : Bool) → eqb m n ≡ b → b ≡ false
test_false m n other h3 e = grind (arith, eqb-true)

-- those of other classes
pub beside_other : (tables : Tables) (t : TableValue) (d : ℕ) → d ≢ t.class → beside tables t d ≡ tables d
beside_other tables t d other = ap (λ (b : Bool). if b then Some t else tables d) (test_false d t.class other (eqb d t.class) refl)

near_there : (o : Option TableValue) → IsSome o → IfSome o (λ t. IsSome t.reach) → IsSome (near_of o)
near_there None some reach = some
near_there (Some t) some reach = of_column t.class t.reach reach
  where
    of_column : (c : ℕ) (entries : Option (List ℕ)) → IsSome entries → IsSome (near_if c entries)
    of_column c None some = some
    of_column c (Some entries) some = refl

-- where a move leaves the game, it leads to where something is known
pub known_there : (laws : Laws) (tables : Tables) (objective : Objective) (c : ℕ) (p q : Setup) (m : Move) → c < 36 → IsAdmissible p → (flipped : Bool) × IsOf c flipped p → HasChildren tables c → Knows tables c objective → Leads p m q → ¬ GoesOn (metric_of objective) c p m q →
    (d : ℕ) (flipped : Bool) → d < 36 → IsOf d flipped q → IsSome (known tables c objective d)
known_there laws tables objectives.Mate c p q m c_in ok of children knows leads off d flipped d_in d_of = child_there laws tables c p q m c_in ok of children leads off d flipped d_in d_of
known_there laws tables (objectives.Zeroing ranks) c p q m c_in ok of children knows leads off d flipped d_in d_of = ⊎_elim
    (λ (own : IsOf c of.0 q).
    let same = laws.facts.one_class q c d of.0 flipped c_in d_in own d_of in
    subst (λ e. IsSome (beside tables (mate_table c ranks.now) e)) same (ap is_some (beside_own tables (mate_table c ranks.now))))
    (λ (child : (e : ℕ) × (turned : Bool) × Contains (children_of c) e × IsOf e turned q).
    let below = laws.facts.child_below c child.0 c_in child.2 in
    let same = laws.facts.one_class q child.0 d child.1 flipped (omega (arith, below, c_in)) d_in child.3 d_of in
    beside_some (mate_table c ranks.now) (tables d) (eqb d c) (subst (λ e. IsSome (tables e)) same (children child.0 child.2)))
    (laws.facts.step_class p q m c of.0 c_in ok of.1 leads)
known_there laws tables objectives.Reach c p q m c_in ok of children knows leads off d flipped d_in d_of =
    child_there laws (near_tables tables) c p q m c_in ok of (λ e child. near_there (tables e) (children e child) (knows e child)) leads off d flipped d_in d_of
