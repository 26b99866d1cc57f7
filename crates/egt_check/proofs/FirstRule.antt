-- From what comparing finds to the first rule that an entry breaks.
use Rattle.std.proofs.Common.{◌≡◌, ◌≢◌, ℕ, ◌<◌, Option, Some, None, sym, subst, ◌∙◌, arith}
use Rattle.egt_check.specs.Prelude.{Setup, Spells, IsVoid, Value, Win, Loss, Draw, Metric, Mate, Zeroing, TableValue}
use Rattle.egt_check.specs.Prelude.{Outcome, Rule, entry_of, Shows, FitsBeside, Agree, IsCompared, Finds, FindsVoid}
use Rattle.egt_check.specs.Prelude.{value_of, IsDueDraw, IsDue, Tables, entry_at, ShowsOf, shown_once, shown_range}
use Rattle.egt_check.specs.Prelude.{in_range}
use Rattle.egt_entries.specs.declared.outcome.Outcome.TheVariants as outcomes
use Rattle.egt_entries.specs.declared.rule.Rule.TheVariants as rules
use Rattle.egt_entries.specs.Rules.{Fits, AgreesInKind, Keeps, rule_place, IsJudged}

module _ (tables : Tables) (t : TableValue) (i : ℕ) where
  agrees_in : (metric : Metric) → Agree metric (entry_at t Mate i) (entry_at t metric i) → AgreesInKind t metric i
  agrees_in metric agrees = grind arith

  agrees_by : (metric : Metric) → AgreesInKind t metric i → Agree metric (entry_at t Mate i) (entry_at t metric i)
  agrees_by Mate agrees = tt
  agrees_by Zeroing agrees = agrees

  -- the rules before the n-th
  kept_before : (metric : Metric) (n : ℕ) → (0 < n → Keeps tables t metric i rules.Void) → (1 < n → Keeps tables t metric i rules.Range) → (2 < n → Keeps tables t metric i rules.Kind) → (3 < n → Keeps tables t metric i rules.Win) → (4 < n → Keeps tables t metric i rules.Loss) → (5 < n → Keeps tables t metric i rules.Draw) → (rule : Rule) → rule_place rule < n → Keeps tables t metric i rule
  kept_before metric n void range kind win loss draw rules.Void lt = void lt
  kept_before metric n void range kind win loss draw rules.Range lt = range lt
  kept_before metric n void range kind win loss draw rules.Kind lt = kind lt
  kept_before metric n void range kind win loss draw rules.Win lt = win lt
  kept_before metric n void range kind win loss draw rules.Loss lt = loss lt
  kept_before metric n void range kind win loss draw rules.Draw lt = draw lt
  kept_before metric n void range kind win loss draw rules.Reach lt = tt
  kept_before metric n void range kind win loss draw rules.Dead lt = tt

  place_below : (rule : Rule) → rule_place rule < 8
  place_below rule = grind arith

  -- where no position has the index
  pub void_judged : (metric : Metric) → IsVoid t.class i → (rule : Option Rule) → FindsVoid (entry_at t metric i) rule → IsJudged tables t metric i rule
  void_judged metric void rule h = grind (arith, kept_before, agrees_in, shown_range)

module _ (tables : Tables) (t : TableValue) (i : ℕ) (p : Setup) (spelled : Spells t.class i p) (alone : (q : Setup) → Spells t.class i q → q ≡ p) (index : ¬ IsVoid t.class i) (metric : Metric) (due : ℕ) (is_due : IsDue (ShowsOf tables) metric p due) where
  abbrev here : ℕ
  here = entry_at t metric i

  abbrev mate_entry : ℕ
  mate_entry = entry_at t Mate i

  kept_void : here ≢ 0 → Keeps tables t metric i rules.Void
  kept_void some = ((λ e. absurd (some e)), (λ void. absurd (index void)))

  -- the value that is shown fits where the entry is the one that is due
  value_fits : (outcome : Outcome) → Shows here (value_of outcome) → (IsCompared metric outcome → here ≡ due) → FitsBeside (ShowsOf tables) metric p (value_of outcome)
  value_fits outcome shows is = grind (arith, outcomes.Win, outcomes.Loss, outcomes.Draw)

  fits : (outcome : Outcome) → Shows here (value_of outcome) → (IsCompared metric outcome → here ≡ due) → (v : Value) → Fits tables t metric i v
  fits outcome shows is v shows_v q spells =
      subst (λ w. FitsBeside (ShowsOf tables) metric q w) (shown_once here (value_of outcome) v shows shows_v)
      (subst (λ r. FitsBeside (ShowsOf tables) metric r (value_of outcome)) (sym (alone q spells)) (value_fits outcome shows is))

  -- an entry that shows something keeps the rules on other kinds
  fits_other : (v w : Value) → Shows here v → (v ≡ w → ⊥) → Fits tables t metric i w
  fits_other v w shows other shows_w = absurd (other (shown_once here v w shows shows_w))

  -- the first rule that is broken, or that all are kept
  pub judged : (rule : Option Rule) → Finds metric mate_entry here due rule → IsJudged tables t metric i rule
  judged None right =
      λ rule. kept_before tables t i metric 8
      (λ lt. kept_void ((shown_range here (value_of right.outcome) right.shows).0))
      (λ lt. let shown = shown_range here (value_of right.outcome) right.shows in (shown.1, shown.2))
      (λ lt. agrees_in tables t i metric right.agrees)
      (λ lt n. fits right.outcome right.shows right.is (Win n))
      (λ lt n. fits right.outcome right.shows right.is (Loss n))
      (λ lt. fits right.outcome right.shows right.is Draw)
      rule (place_below tables t i rule)
  judged (Some rules.Void) zero = record {
    broken = λ keeps. index (keeps.0 zero);
    kept = λ rule lt. absurd (omega arith);
  }
  judged (Some rules.Range) found = record {
    broken = λ keeps. let shown = in_range here found.0 keeps.0 keeps.1 in found.1 shown.0 shown.1;
    kept = kept_before tables t i metric 1
        (λ lt. kept_void found.0)
        (λ lt. absurd (omega arith)) (λ lt. absurd (omega arith)) (λ lt. absurd (omega arith)) (λ lt. absurd (omega arith)) (λ lt. absurd (omega arith));
  }
  judged (Some rules.Kind) found = record {
    broken = λ keeps. found.differs (agrees_by tables t i metric keeps);
    kept = kept_before tables t i metric 2
        (λ lt. kept_void ((shown_range here (value_of found.outcome) found.shows).0))
        (λ lt. let shown = shown_range here (value_of found.outcome) found.shows in (shown.1, shown.2))
        (λ lt. absurd (omega arith)) (λ lt. absurd (omega arith)) (λ lt. absurd (omega arith)) (λ lt. absurd (omega arith));
  }
  judged (Some rules.Win) found =
      let wrong = found.1 in
      record {
        broken = λ keeps. wrong.other (wrong.shows.1 ∙ sym ((is_due.win found.0).0 (keeps found.0 wrong.shows p spelled)));
        kept = kept_before tables t i metric 3
            (λ lt. kept_void ((shown_range here (Win found.0) wrong.shows).0))
            (λ lt. let shown = shown_range here (Win found.0) wrong.shows in (shown.1, shown.2))
            (λ lt. agrees_in tables t i metric wrong.agrees)
            (λ lt. absurd (omega arith)) (λ lt. absurd (omega arith)) (λ lt. absurd (omega arith));
      }
  judged (Some rules.Loss) found =
      let wrong = found.1 in
      record {
        broken = λ keeps. wrong.other (wrong.shows.1 ∙ sym ((is_due.loss found.0).0 (keeps found.0 wrong.shows p spelled)));
        kept = kept_before tables t i metric 4
            (λ lt. kept_void ((shown_range here (Loss found.0) wrong.shows).0))
            (λ lt. let shown = shown_range here (Loss found.0) wrong.shows in (shown.1, shown.2))
            (λ lt. agrees_in tables t i metric wrong.agrees)
            (λ lt n. fits_other (Loss found.0) (Win n) wrong.shows (λ e. cc))
            (λ lt. absurd (omega arith)) (λ lt. absurd (omega arith));
      }
  judged (Some rules.Draw) wrong = record {
    broken = λ keeps. undrawn metric is_due.draw wrong.compared wrong.other wrong.shows.1 (keeps wrong.shows p spelled);
    kept = kept_before tables t i metric 5
        (λ lt. kept_void ((shown_range here Draw wrong.shows).0))
        (λ lt. let shown = shown_range here Draw wrong.shows in (shown.1, shown.2))
        (λ lt. agrees_in tables t i metric wrong.agrees)
        (λ lt n. fits_other Draw (Win n) wrong.shows (λ e. cc))
        (λ lt n. fits_other Draw (Loss n) wrong.shows (λ e. cc))
        (λ lt. absurd (omega arith));
  }
    where
      undrawn : (metric : Metric) → IsDueDraw (ShowsOf tables) metric p due → IsCompared metric outcomes.Draw → here ≢ due → here ≡ entry_of Draw → FitsBeside (ShowsOf tables) metric p Draw → ⊥
      undrawn Mate draw compared other e fit = other (e ∙ sym (draw.0 fit))
      undrawn Zeroing draw compared other e fit = compared
  judged (Some rules.Reach) found = absurd found
  judged (Some rules.Dead) found = absurd found
