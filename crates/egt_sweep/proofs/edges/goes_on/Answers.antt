use Rattle.std.proofs.Common.{ℕ, ◌↔◌, ◌<◌, not, IsTrue, sym, subst}
use Rattle.egt_sweep.specs.Prelude.{Metric, GoesOn}
use Rattle.egt_sweep.proofs.Staying.{does_not_zero, quiet_stays, stays_in_class, tests_equal}
use Rattle.egt_sweep.proofs.edges.goes_on.Goals as goal

pub returns-in-Mate-clause-on : goal.returns-in-Mate-clause-on
returns-in-Mate-clause-on c = λ q flipped leads of.
    let equal = tests_equal c.eq.result c.args.after c.args.class c.eq.ensures in
    let ok = c.laws.ensures.facts.step_admissible c.args.position.now q c.args.chess_move.now c.side-side.ensures.admissible leads in
    let stays = stays_in_class c.laws.ensures c.args.class c.args.after flipped q (subst (λ (n : ℕ). n < 36) c.number-number.ensures.value c.number-number.ensures.below) (subst (λ (n : ℕ). n < 36) c.number-number_after.ensures.value c.number-number_after.ensures.below) ok of in
    subst (λ (metric : Metric). IsTrue c.eq.result ↔ GoesOn metric c.args.class c.args.position.now c.args.chess_move.now q) (sym c.in-Mate.is)
    (λ t. stays.0 (equal.0 t), λ on. equal.1 (stays.1 on))

pub returns-in-Mate-clause-class : goal.returns-in-Mate-clause-class
returns-in-Mate-clause-class c = λ q flipped leads of t. (tests_equal c.eq.result c.args.after c.args.class c.eq.ensures).0 t

pub returns-in-Zeroing-clause-on : goal.returns-in-Zeroing-clause-on
returns-in-Zeroing-clause-on c = λ q flipped leads of.
    subst (λ (metric : Metric). IsTrue (not c.zeroing.result) ↔ GoesOn metric c.args.class c.args.position.now c.args.chess_move.now q) (sym c.in-Zeroing.is)
    (does_not_zero c.zeroing.result c.zeroing.ensures)

pub returns-in-Zeroing-clause-class : goal.returns-in-Zeroing-clause-class
returns-in-Zeroing-clause-class c = λ q flipped leads of t.
    let own = quiet_stays c.laws.ensures c.args.class c.args.position.now q c.args.chess_move.now c.side-side.ensures.admissible c.requires leads ((does_not_zero c.zeroing.result c.zeroing.ensures).0 t) in
    sym (c.laws.ensures.facts.one_class q c.args.class c.args.after own.0 flipped (subst (λ (n : ℕ). n < 36) c.number-number.ensures.value c.number-number.ensures.below) (subst (λ (n : ℕ). n < 36) c.number-number_after.ensures.value c.number-number_after.ensures.below) own.1 of)
