-- From what comparing finds to the first rule that an entry of the column of the nearest mates breaks.
use Rattle.std.proofs.Common.{◌≡◌, ◌≢◌, ℕ, ◌-◌, ◌<◌, Option, Some, None, sym, subst, ◌∙◌, arith}
use Rattle.egt_entries.specs.Prelude.{Setup, Spells, IsVoid, TableValue, Rule, FitsReachBeside, IsReachDue, ShowsReach}
use Rattle.egt_entries.specs.Prelude.{ShowsReachOf, FindsReach, FitsReach, IsJudgedBy, KeepsReach, rule_place, Tables}
use Rattle.egt_entries.specs.Prelude.{reach_at}
use Rattle.egt_entries.specs.declared.rule.Rule.TheVariants as rules

module _ (tables : Tables) (t : TableValue) (i : ℕ) where
  -- the rules before the n-th
  kept_before : (n : ℕ) → (0 < n → KeepsReach tables t i rules.Void) → (1 < n → KeepsReach tables t i rules.Range) → (6 < n → KeepsReach tables t i rules.Reach) → (7 < n → KeepsReach tables t i rules.Dead) → (rule : Rule) → rule_place rule < n → KeepsReach tables t i rule
  kept_before n void range reach dead rules.Void lt = void lt
  kept_before n void range reach dead rules.Range lt = range lt
  kept_before n void range reach dead rules.Kind lt = tt
  kept_before n void range reach dead rules.Win lt = tt
  kept_before n void range reach dead rules.Loss lt = tt
  kept_before n void range reach dead rules.Draw lt = tt
  kept_before n void range reach dead rules.Reach lt = reach lt
  kept_before n void range reach dead rules.Dead lt = dead lt

  kept_all : KeepsReach tables t i rules.Void → KeepsReach tables t i rules.Range → KeepsReach tables t i rules.Reach → KeepsReach tables t i rules.Dead → (rule : Rule) → KeepsReach tables t i rule
  kept_all void range reach dead rule = kept_before 8 (λ lt. void) (λ lt. range) (λ lt. reach) (λ lt. dead) rule (place_below rule)
    where
      place_below : (rule : Rule) → rule_place rule < 8
      place_below rule = grind arith

module _ (tables : Tables) (t : TableValue) (i : ℕ) (p : Setup) (spelled : Spells t.class i p) (alone : (q : Setup) → Spells t.class i q → q ≡ p) (index : ¬ IsVoid t.class i) (due : ℕ) (is_due : IsReachDue (ShowsReachOf tables) p due) where
  abbrev here : ℕ
  here = reach_at t i

  kept_void : here ≢ 0 → KeepsReach tables t i rules.Void
  kept_void some = ((λ e. absurd (some e)), (λ void. absurd (index void)))

  -- the number that is shown fits where the entry is the one that is due
  fits : here ≡ due → (number : Option ℕ) → FitsReach tables t i number
  fits is number shows q spells =
      subst (λ r. FitsReachBeside (ShowsReachOf tables) r number) (sym (alone q spells)) ((is_due number).1 (sym is ∙ shows.1))

  -- and does not where it is another
  misfit : here ≢ due → (number : Option ℕ) → ShowsReach here number → ¬ FitsReach tables t i number
  misfit other number shows fit = other (shows.1 ∙ sym ((is_due number).0 (fit shows p spelled)))

  -- the first rule that is broken, or that all are kept
  pub reach_judged : (rule : Option Rule) → FindsReach here due rule → IsJudgedBy (KeepsReach tables t i) rule
  reach_judged None right = kept_all tables t i (kept_void right.0.some) right.0.short (λ n. fits right.1 (Some n)) (fits right.1 None)
  reach_judged (Some rules.Void) zero = record {
    broken = λ keeps. index (keeps.0 zero);
    kept = λ rule lt. absurd (omega arith);
  }
  reach_judged (Some rules.Range) high = record {
    broken = λ keeps. omega (arith, keeps, high);
    kept = kept_before tables t i 1 (λ lt. kept_void (omega (arith, high))) (λ lt. absurd (omega arith)) (λ lt. absurd (omega arith)) (λ lt. absurd (omega arith));
  }
  reach_judged (Some rules.Kind) found = absurd found
  reach_judged (Some rules.Win) found = absurd found
  reach_judged (Some rules.Loss) found = absurd found
  reach_judged (Some rules.Draw) found = absurd found
  reach_judged (Some rules.Reach) found =
      let some = found.0.some in
      let short = found.0.short in
      let alive = found.1 in
      record {
        broken = λ keeps. misfit found.2 (Some (here - 2)) (omega (arith, short), omega (arith, some, alive)) (keeps (here - 2));
        kept = kept_before tables t i 6 (λ lt. kept_void some) (λ lt. short) (λ lt. absurd (omega arith)) (λ lt. absurd (omega arith));
      }
  reach_judged (Some rules.Dead) found =
      let one = found.0 in
      record {
        broken = misfit found.1 None (tt, one);
        kept = kept_before tables t i 7 (λ lt. kept_void (omega (arith, one))) (λ lt. omega (arith, one)) (λ lt n shows. let e = shows.1 in absurd (omega (arith, e, one))) (λ lt. absurd (omega arith));
      }
