use Rattle.std.proofs.Common.{ℕ, ◌<◌, [], ◌∷◌, ◌++◌, sym, ap, ◌∙◌, subst}
use Rattle.egt_sweep.specs.Prelude.{append-nil, option_to_list, table_at, Metric, GoesOn, metric_of, known}
use Rattle.egt_sweep.proofs.Collecting.{untrue}
use Rattle.egt_sweep.proofs.OutOfClass.{known_there, off_exit, on_no_exit, quiet_no_exit}
use Rattle.egt_sweep.proofs.exits.add_exit.Goals as goal

pub returns-then-goes_on-clause-items : goal.returns-then-goes_on-clause-items
returns-then-goes_on-clause-items c =
    let p = c.args.position.now in
    let m = c.args.chess_move.now in
    let (q, leads) = c.requires.legal in
    let there = c.place_after-place.ensures q leads in
    let objective = c.args.objective.now in
    let on = subst (λ (metric : Metric). GoesOn metric c.args.class p m q) c.metric-metric.ensures ((c.goes_on.ensures.on q there.flipped leads there.of).0 c.if-goes_on.true) in
    let none = on_no_exit c.laws.ensures (known (table_at c.args.library.now) c.args.class objective) (metric_of objective) c.args.class p q m c.side-side.ensures.admissible leads on in
    sym (append-nil c.args.list.now.items) ∙ sym (ap (λ o. c.args.list.now.items ++ option_to_list o) none)

pub returns-then-not-zeroing-clause-items : goal.returns-then-not-zeroing-clause-items
returns-then-not-zeroing-clause-items c =
    let p = c.args.position.now in
    let m = c.args.chess_move.now in
    let legal = c.requires.legal in
    let objective = c.args.objective.now in
    let quiet = untrue c.zeroing.result c.if-not-zeroing.true c.zeroing.ensures in
    let none = quiet_no_exit c.laws.ensures (known (table_at c.args.library.now) c.args.class objective) (metric_of objective) c.args.class p legal.0 m c.side-side.ensures.admissible legal.1
    (subst (λ (n : ℕ). n < 36) c.number-number.ensures.value c.number-number.ensures.below) c.requires.of quiet in
    sym (append-nil c.args.list.now.items) ∙ sym (ap (λ o. c.args.list.now.items ++ option_to_list o) none)

pub exit_at-exit-requires-clause-there : goal.exit_at-exit-requires-clause-there
exit_at-exit-requires-clause-there c =
    let p = c.args.position.now in
    let m = c.args.chess_move.now in
    let (q, leads) = c.requires.legal in
    let there = c.place_after-place.ensures q leads in
    let objective = c.args.objective.now in
    let off : ¬ GoesOn (metric_of objective) c.args.class p m q = subst (λ (metric : Metric). ¬ GoesOn metric c.args.class p m q) c.metric-metric.ensures (untrue c.goes_on.result c.if-goes_on.false (c.goes_on.ensures.on q there.flipped leads there.of)) in
    known_there c.laws.ensures (table_at c.args.library.now) objective c.args.class p q m (subst (λ (n : ℕ). n < 36) c.number-number.ensures.value c.number-number.ensures.below)
    c.side-side.ensures.admissible c.requires.of c.requires.children c.requires.knows leads off c.place_after-place.result.class there.flipped there.below there.of

pub exit_at-exit-requires-clause-indexed : goal.exit_at-exit-requires-clause-indexed
exit_at-exit-requires-clause-indexed c =
    let (q, leads) = c.requires.legal in
    record {
      position = q;
      admissible = c.laws.ensures.facts.step_admissible c.args.position.now q c.args.chess_move.now c.side-side.ensures.admissible leads;
      index = (c.place_after-place.ensures q leads).is_index;
    }

pub returns-clause-items : goal.returns-clause-items
returns-clause-items c =
    let p = c.args.position.now in
    let m = c.args.chess_move.now in
    let (q, leads) = c.requires.legal in
    let there = c.place_after-place.ensures q leads in
    let objective = c.args.objective.now in
    let off : ¬ GoesOn (metric_of objective) c.args.class p m q = subst (λ (metric : Metric). ¬ GoesOn metric c.args.class p m q) c.metric-metric.ensures (untrue c.goes_on.result c.if-goes_on.false (c.goes_on.ensures.on q there.flipped leads there.of)) in
    let some = off_exit c.laws.ensures (known (table_at c.args.library.now) c.args.class objective) (metric_of objective) c.args.class p q m c.side-side.ensures.admissible leads off in
    c.push.ensures.items ∙ ap (λ e. c.args.list.now.items ++ e ∷ []) (c.exit_at-exit.ensures q there.flipped (c.laws.ensures.facts.step_admissible p q m c.side-side.ensures.admissible leads) there.of there.is_index) ∙ sym (ap (λ o. c.args.list.now.items ++ option_to_list o) some)
