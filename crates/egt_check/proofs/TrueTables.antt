-- Where the children's columns of wins and losses are true, a table's keep the rules exactly where they are true.
use Rattle.std.proofs.Common.{◌≡◌, ◌≢◌, ℕ, zero, suc, ◌<◌, ◌≤◌, ◌⊎◌, ◌↔◌, Bool, IsTrue, Some, refl, sym, subst, inl}
use Rattle.std.proofs.Common.{inr, arith}
use Rattle.egt_check.specs.Prelude.{cases_eq, cases_lt, ⊎_elim, Contains, Decided, tells_so, IsIndex, entry_at, in_range}
use Rattle.egt_check.specs.Prelude.{⊎_map, tells, Setup, IsVoid, size_of, Win, Metric, Zeroing, IsTable, Tables, ShowsOf}
use Rattle.egt_check.specs.Prelude.{tells_where, decided_admissible, IsAdmissible, HasTrueValues, HasTrueValuesBelow}
use Rattle.egt_check.specs.Prelude.{children_of, TableValue, StepAlike, FitsBeside, ShownAlike, PlaysLike, shown_range}
use Rattle.egt_check.specs.Prelude.{IsOf, Value, Loss, Draw, chess, Mate, Rule, Shows, Facts, Shown, Tells, carry}
use Rattle.egt_moves.specs.Entries as entries
use Rattle.egt_entries.specs.declared.rule.Rule.TheVariants as rules
use Rattle.egt_entries.specs.Rules.{Fits, Keeps, KeepsBelow}
use Rattle.egt_check.proofs.Alike.{settled_image_alike, indexed_class, images_show_alike, spelled_index}
use Rattle.egt_check.proofs.Told.{entry_there, value_at, shown_told, told_shown}

module _ (facts : Facts) (tables : Tables) (t : TableValue) (sized : IsTable t) (here : tables t.class ≡ Some t) where
  -- a position of the table's class
  abbrev pub Own : Setup → Type 0
  Own p = IsAdmissible p × ((flipped : Bool) × IsOf t.class flipped p)

  -- a position of a child
  abbrev pub Child : Setup → Type 0
  Child q = IsAdmissible q × ((d : ℕ) × (flipped : Bool) × Contains (children_of t.class) d × IsOf d flipped q)

  decided_own : (p : Setup) → Decided (Own p)
  decided_own p = of_admissible (decided_admissible p)
    where
      of_class : IsAdmissible p → (c : ℕ) × (flipped : Bool) × (c < 36) × IsOf c flipped p → Decided (Own p)
      of_class ok own = elim (cases_eq own.0 t.class) [
        | inl e ↦ inl (ok, (own.1, subst (λ c. IsOf c own.1 p) e own.3))
        | inr other ↦ inr (λ h. other (facts.one_class p own.0 t.class own.1 h.1.0 own.2 sized.class_in own.3 h.1.1))
      ]

      of_admissible : Decided (IsAdmissible p) → Decided (Own p)
      of_admissible (inl ok) = of_class ok (facts.classes p ok)
      of_admissible (inr not) = inr (λ h. not h.0)

  pub own : Setup → Bool
  own p = tells (decided_own p)

  pub is_own : (p : Setup) → Own p → IsTrue (own p)
  unfolding own
  is_own p h = tells_where (decided_own p) h

  pub owned : (p : Setup) → IsTrue (own p) → Own p
  unfolding own
  owned p h = tells_so (decided_own p) h

  -- a step stays in the class or leads to a child
  pub step : (p q : Setup) → Own p → chess.Move p q → Own q ⊎ Child q
  step p q o m =
      let ok = facts.step_admissible p q m.0 o.0 m.1 in
      ⊎_map (λ of. (ok, (o.1.0, of))) (λ child. (ok, child)) (facts.step_class p q m.0 t.class o.1.0 sized.class_in o.0 o.1.1 m.1)

  -- what a true table shows
  true_shown : (metric : Metric) (u : TableValue) (d : ℕ) (flipped : Bool) (p : Setup) → d < 36 → tables d ≡ Some u → u.class ≡ d → HasTrueValues u → IsAdmissible p → IsOf d flipped p →
      (v : Value) × Tells metric p v × ShowsOf tables metric p v
  true_shown metric u d flipped p d_in found class truth ok of =
      let index = facts.some_index p d flipped d_in ok of in
      let tells = truth.true metric p index.0 ok (subst (λ c. IsIndex c p index.0) (sym class) index.1) in
      (tells.0, tells.1, (entry_at u metric index.0, entry_there tables metric u d flipped p index.0 d_in found of index.1, tells.2))

  module _ (children : HasTrueValuesBelow tables t.class) where
    child_shown : (metric : Metric) (q : Setup) → Child q → (v : Value) × Tells metric q v × ShowsOf tables metric q v
    child_shown metric q child =
        let d = child.1.0 in
        let u = children d child.1.2 in
        let below = facts.child_below t.class d sized.class_in child.1.2 in
        true_shown metric u.0 d child.1.1 q (omega (arith, below, sized.class_in)) u.1 u.2 u.3 child.0 child.1.3

    -- what is told of positions
    told : Shown
    told metric q v = value_at facts tables metric q ≡ v

    child_tells : (metric : Metric) (q : Setup) → Child q → Tells metric q (value_at facts tables metric q)
    child_tells metric q child = let s = child_shown metric q child in subst (Tells metric q) (sym (shown_told facts tables metric q s.0 child.0 s.2)) s.1

    -- checkmate leaves no move
    mate_ends : (p : Setup) → chess.Checkmate p → (q : Setup) → chess.Move p q → ⊥
    mate_ends p mate q m = mate.stuck m.0 (q, m.1)

    fits_mate : (p : Setup) (v : Value) → FitsBeside told Mate p v ↔ entries.Fits chess (value_at facts tables Mate) p v
    unfolding told
    fits_mate p (Win zero) = ((λ h. h), (λ h. h))
    fits_mate p (Win (suc n)) = ((λ h. h), (λ h. h))
    fits_mate p (Loss zero) = ((λ h. h), (λ h. h))
    fits_mate p (Loss (suc n)) = ((λ h. h), (λ h. h))
    fits_mate p Draw = ((λ h. h), (λ h. h))

    fits_zeroing : (p : Setup) (v : Value) → FitsBeside told Zeroing p v
        ↔ entries.FitsZeroing chess (value_at facts tables Mate) (value_at facts tables Zeroing) p v
    unfolding told
    fits_zeroing p (Win zero) = ((λ h. h), (λ h. h))
    fits_zeroing p (Win (suc n)) = ((λ h. h), (λ h. h))
    fits_zeroing p (Loss zero) = ((λ h. h), (λ h. h))
    fits_zeroing p (Loss (suc n)) = ((λ h. h), (λ h. h))
    fits_zeroing p Draw = ((λ h. h), (λ h. h))

    -- something is shown of each position of the class
    abbrev AllShown : Type 0
    AllShown = (metric : Metric) (p : Setup) → Own p → (v : Value) × ShowsOf tables metric p v

    module _ (all : AllShown) where
      next_shown : (metric : Metric) (p q : Setup) → Own p → chess.Move p q → (v : Value) × ShowsOf tables metric q v
      next_shown metric p q o m = ⊎_elim (all metric q) (λ child. let s = child_shown metric q child in (s.0, s.2)) (step p q o m)

      -- what is shown of a successor is told of it, and of its images
      shown_alike : (p q q' : Setup) → Own p → chess.Move p q → (IsAdmissible q → (metric : Metric) (v : Value) → ShowsOf tables metric q v ↔ ShowsOf tables metric q' v) → ShownAlike (ShowsOf tables) told q' q
      unfolding told
      shown_alike p q q' o m same metric v =
          let ok = facts.step_admissible p q m.0 o.0 m.1 in
          (λ shown. shown_told facts tables metric q v ok ((same ok metric v).1 shown), λ tells. (same ok metric v).0 (told_shown facts tables metric q v ok (next_shown metric p q o m) tells))

      turned : (q q' : Setup) → ShownAlike (ShowsOf tables) told q' q → ShownAlike told (ShowsOf tables) q q'
      turned q q' alike metric v = ((alike metric v).1, (alike metric v).0)

      -- a position of the class plays like one whose steps lead to images
      plays_like : (p p' : Setup) → Own p → IsAdmissible p' → StepAlike p p' → PlaysLike (ShowsOf tables) told p' p
      plays_like p p' o ok' alike = record {
        checkmate = (alike.checkmate.1, alike.checkmate.0);
        there = λ q' m'.
            let s = alike.back q' m' in
            let same = λ (metric : Metric) (v : Value). images_show_alike facts tables metric v q' s.0 (facts.step_admissible p' q' m'.0 ok' m'.1) s.3 in
            (s.0, s.1, s.2, shown_alike p s.0 q' o s.1 (λ ok metric v. ((same metric v).1, (same metric v).0)));
        back = λ q m.
            let s = alike.there q m in
            (s.0, s.1, s.2, turned q s.0 (shown_alike p q s.0 o m (λ ok metric v. images_show_alike facts tables metric v q s.0 ok s.3)));
      }

    -- a table that keeps the rules is true
    module _ (keeps : (metric : Metric) → KeepsBelow tables t metric (size_of t.class)) where
      own_shown : (metric : Metric) (p : Setup) (i : ℕ) → IsAdmissible p → IsIndex t.class p i → (v : Value) × Shows (entry_at t metric i) v
      own_shown metric p i ok is =
          let below = facts.index_below p t.class i is in
          let void : Keeps tables t metric i rules.Void = keeps metric i below rules.Void in
          let range : Keeps tables t metric i rules.Range = keeps metric i below rules.Range in
          in_range (entry_at t metric i) (λ e. void.0 e p ok is) range.0 range.1

      all_shown : AllShown
      all_shown metric p o =
          let index = facts.some_index p t.class o.1.0 sized.class_in o.0 o.1.1 in
          let s = own_shown metric p index.0 o.0 index.1 in
          (s.0, (entry_at t metric index.0, entry_there tables metric t t.class o.1.0 p index.0 sized.class_in here o.1.1 index.1, s.1))

      by_rule : (metric : Metric) (i : ℕ) (v : Value) → i < size_of t.class → Fits tables t metric i v
      by_rule metric i (Win n) below = (keeps metric i below rules.Win) n
      by_rule metric i (Loss n) below = (keeps metric i below rules.Loss) n
      by_rule metric i Draw below = keeps metric i below rules.Draw

      own_fits : (metric : Metric) (p : Setup) → Own p → FitsBeside told metric p (value_at facts tables metric p)
      own_fits metric p o =
          let index = facts.some_index p t.class o.1.0 sized.class_in o.0 o.1.1 in
          let is = index.1 in
          let s = own_shown metric p index.0 o.0 is in
          let below = facts.index_below p t.class index.0 is in
          let fits = by_rule metric index.0 s.0 below s.1 is.image is.spells in
          let alike = settled_image_alike facts p is.settled is.image o.0 is.settles is.images in
          let tells = shown_told facts tables metric p s.0 o.0 (entry_at t metric index.0, entry_there tables metric t t.class o.1.0 p index.0 sized.class_in here o.1.1 is, s.1) in
          subst (FitsBeside told metric p) (sym tells) (carry (ShowsOf tables) told is.image p (plays_like all_shown p is.image o is.spells.admissible alike) metric s.0 fits)

      agree : (p : Setup) → Own p → entries.SameKind (value_at facts tables Mate p) (value_at facts tables Zeroing p)
      agree p o =
          let index = facts.some_index p t.class o.1.0 sized.class_in o.0 o.1.1 in
          let mate = own_shown Mate p index.0 o.0 index.1 in
          let zeroing = own_shown Zeroing p index.0 o.0 index.1 in
          let below = facts.index_below p t.class index.0 index.1 in
          let kind : Keeps tables t Zeroing index.0 rules.Kind = keeps Zeroing index.0 below rules.Kind in
          let there = λ (metric : Metric). entry_there tables metric t t.class o.1.0 p index.0 sized.class_in here o.1.1 index.1 in
          subst (λ v. entries.SameKind v (value_at facts tables Zeroing p)) (sym (shown_told facts tables Mate p mate.0 o.0 (entry_at t Mate index.0, there Mate, mate.1)))
          (subst (entries.SameKind mate.0) (sym (shown_told facts tables Zeroing p zeroing.0 o.0 (entry_at t Zeroing index.0, there Zeroing, zeroing.1))) (kind mate.0 zeroing.0 mate.1 zeroing.1))

      judged : entries.JudgedOver chess (λ p. IsTrue (own p)) (value_at facts tables Mate)
      judged = record {
        ends = mate_ends;
        over = λ p q o m. ⊎_map (is_own q) (child_tells Mate q) (step p q (owned p o) m);
        fits = λ p o. (fits_mate p (value_at facts tables Mate p)).0 (own_fits Mate p (owned p o));
      }

      zeroing_judged : entries.ZeroingJudgedOver chess (λ p. IsTrue (own p)) (value_at facts tables Mate) (value_at facts tables Zeroing)
      zeroing_judged = record {
        over = λ p q o m. ⊎_map (is_own q) (child_tells Zeroing q) (step p q (owned p o) m);
        kind = λ p o. agree p (owned p o);
        fits = λ p o. (fits_zeroing p (value_at facts tables Zeroing p)).0 (own_fits Zeroing p (owned p o));
      }

      tells_true : (metric : Metric) (p : Setup) → Own p → Tells metric p (value_at facts tables metric p)
      tells_true Mate p o = facts.values_by_rules own (value_at facts tables Mate) judged p (is_own p o)
      tells_true Zeroing p o = facts.distances_by_rules own (value_at facts tables Mate) (value_at facts tables Zeroing) judged zeroing_judged p (is_own p o)

      pub entry_true : (metric : Metric) (p : Setup) (i : ℕ) → IsAdmissible p → IsIndex t.class p i → (v : Value) × Tells metric p v × Shows (entry_at t metric i) v
      entry_true metric p i ok is =
          let of = indexed_class facts t.class i p ok is in
          let s = own_shown metric p i ok is in
          let shown = shown_told facts tables metric p s.0 ok (entry_at t metric i, entry_there tables metric t t.class of.0 p i sized.class_in here of.1 is, s.1) in
          (s.0, subst (Tells metric p) shown (tells_true metric p (ok, of)), s.1)

      pub void_true : (metric : Metric) (i : ℕ) → i < size_of t.class → IsVoid t.class i → entry_at t metric i ≡ 0
      void_true metric i below void = let rule : Keeps tables t metric i rules.Void = keeps metric i below rules.Void in rule.1 void

    -- a true table keeps the rules
    module _ (truth : HasTrueValues t) where
      true_own : (metric : Metric) (p : Setup) → Own p → (v : Value) × Tells metric p v × ShowsOf tables metric p v
      true_own metric p o = true_shown metric t t.class o.1.0 p sized.class_in here refl truth o.0 o.1.1

      own_tells : (metric : Metric) (p : Setup) → Own p → Tells metric p (value_at facts tables metric p)
      own_tells metric p o = let s = true_own metric p o in subst (Tells metric p) (sym (shown_told facts tables metric p s.0 o.0 s.2)) s.1

      all_true : AllShown
      all_true metric p o = let s = true_own metric p o in (s.0, s.2)

      true_over : (metric : Metric) (p q : Setup) → IsTrue (own p) → chess.Move p q → IsTrue (own q) ⊎ Tells metric q (value_at facts tables metric q)
      true_over metric p q o m = ⊎_map (is_own q) (child_tells metric q) (step p q (owned p o) m)

      true_judged : entries.JudgedOver chess (λ p. IsTrue (own p)) (value_at facts tables Mate)
      true_judged = facts.rules_by_values own (value_at facts tables Mate) (λ p o. own_tells Mate p (owned p o)) (true_over Mate)

      true_zeroing : entries.ZeroingJudgedOver chess (λ p. IsTrue (own p)) (value_at facts tables Mate) (value_at facts tables Zeroing)
      true_zeroing = facts.rules_by_distances own (value_at facts tables Mate) (value_at facts tables Zeroing)
          (λ p o. own_tells Mate p (owned p o)) (λ p o. own_tells Zeroing p (owned p o)) (true_over Mate) (true_over Zeroing)

      true_fits : (metric : Metric) (p : Setup) → Own p → FitsBeside told metric p (value_at facts tables metric p)
      true_fits Mate p o = (fits_mate p (value_at facts tables Mate p)).1 (true_judged.fits p (is_own p o))
      true_fits Zeroing p o = (fits_zeroing p (value_at facts tables Zeroing p)).1 (true_zeroing.fits p (is_own p o))

      -- what is told of the successors is shown of them
      plays_itself : (p : Setup) → Own p → PlaysLike told (ShowsOf tables) p p
      plays_itself p o = record {
        checkmate = ((λ mate. mate), (λ mate. mate));
        there = λ q m. (q, m, ((λ z. z), (λ z. z)), turned all_true q q (shown_alike all_true p q q o m (λ ok metric v. ((λ s. s), (λ s. s)))));
        back = λ q m. (q, m, ((λ z. z), (λ z. z)), shown_alike all_true p q q o m (λ ok metric v. ((λ s. s), (λ s. s))));
      }

      -- where nothing is shown the entry is 0
      unshown : (metric : Metric) (i : ℕ) → i < size_of t.class → ((v : Value) → ¬ Shows (entry_at t metric i) v) → entry_at t metric i ≡ 0
      unshown metric i below none = truth.void metric i below (λ p ok is. let s = truth.true metric p i ok is in none s.0 s.2)

      fits_true : (metric : Metric) (i : ℕ) (v : Value) → i < size_of t.class → Fits tables t metric i v
      fits_true metric i v below shown p spells =
          let some = (shown_range (entry_at t metric i) v shown).0 in
          let is = spelled_index facts t.class i p sized.class_in spells (λ void. some (truth.void metric i below void)) in
          let of = indexed_class facts t.class i p spells.admissible is in
          let o : Own p = (spells.admissible, of) in
          let tells = shown_told facts tables metric p v spells.admissible (entry_at t metric i, entry_there tables metric t t.class of.0 p i sized.class_in here of.1 is, shown) in
          carry told (ShowsOf tables) p p (plays_itself p o) metric v (subst (FitsBeside told metric p) tells (true_fits metric p o))

      decided_kind : (v w : Value) → Decided (entries.SameKind v w)
      decided_kind v w = grind arith

      kind_true : (i : ℕ) → i < size_of t.class → (v w : Value) → Shows (entry_at t Mate i) v → Shows (entry_at t Zeroing i) w → entries.SameKind v w
      kind_true i below v w mate zeroing = of_decided (decided_kind v w)
        where
          same : (p : Setup) → IsAdmissible p → IsIndex t.class p i → entries.SameKind v w
          same p ok is =
              let of = indexed_class facts t.class i p ok is in
              let there = λ (metric : Metric). entry_there tables metric t t.class of.0 p i sized.class_in here of.1 is in
              subst (λ x. entries.SameKind x w) (shown_told facts tables Mate p v ok (entry_at t Mate i, there Mate, mate))
              (subst (entries.SameKind (value_at facts tables Mate p)) (shown_told facts tables Zeroing p w ok (entry_at t Zeroing i, there Zeroing, zeroing)) (true_zeroing.kind p (is_own p (ok, of))))

          of_decided : Decided (entries.SameKind v w) → entries.SameKind v w
          of_decided (inl h) = h
          of_decided (inr not) = absurd ((shown_range (entry_at t Mate i) v mate).0 (truth.void Mate i below (λ p ok is. not (same p ok is))))

      not_two : (metric : Metric) (i : ℕ) → i < size_of t.class → entry_at t metric i ≢ 2
      not_two metric i below two = grind (arith, unshown, shown_range, entry_at)

      not_high : (metric : Metric) (i : ℕ) → i < size_of t.class → (64003 < entry_at t metric i) ⊎ (entry_at t metric i ≤ 64003) → entry_at t metric i ≤ 64003
      not_high metric i below h = grind (arith, unshown, shown_range, entry_at)

      pub true_keeps : (metric : Metric) (i : ℕ) → i < size_of t.class → (rule : Rule) → Keeps tables t metric i rule
      true_keeps metric i below rules.Void = (λ zero p ok is. let s = truth.true metric p i ok is in (shown_range (entry_at t metric i) s.0 s.2).0 zero, λ void. truth.void metric i below void)
      true_keeps metric i below rules.Range = (not_two metric i below, not_high metric i below (cases_lt 64003 (entry_at t metric i)))
      true_keeps Mate i below rules.Kind = tt
      true_keeps Zeroing i below rules.Kind = kind_true i below
      true_keeps metric i below rules.Win = λ n. fits_true metric i (Win n) below
      true_keeps metric i below rules.Loss = λ n. fits_true metric i (Loss n) below
      true_keeps metric i below rules.Draw = fits_true metric i Draw below
      true_keeps metric i below rules.Reach = tt
      true_keeps metric i below rules.Dead = tt
