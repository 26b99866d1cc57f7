use Rattle.std.proofs.Common.{sym, ◌∙◌, inl, inr}
use Rattle.egt_moves.specs.Prelude.{cases_eq, goes_on_board}
use Rattle.egt_moves.proofs.SafeGoals.{not_passing, shielded, changed_bit, same_target}
use Rattle.egt_moves.proofs.targets.shields.Goals as goal

pub returns-in_default : goal.returns-in_default
returns-in_default c = λ t goes.
    let p = c.args.position.now in
    let none = not_passing p c.args.man t (λ pawn target. c.in_default.ensures.none t ((c.requires.goes t).1 goes) pawn target) in
    let shield = shielded p c.args.man c.args.from t c.king.result c.shelter-shelter.ensures.admissible c.requires.stands c.requires.mine c.requires.other c.king.ensures goes none in
    let kept = c.shelter-shelter.ensures.kept t (goes_on_board p c.args.man c.args.from t goes) in
    (λ one. shield.0 (kept.0 one), λ safe. kept.1 (shield.1 safe))

pub returns : goal.returns
returns c = λ t goes.
    let p = c.args.position.now in
    elim (cases_eq t c.in-Some.target) [
      | inl e ↦ changed_bit p c.args.man c.args.from t c.in-Some.target c.is_safe.result _ e c.set.ensures.same c.is_safe.ensures
      | inr other ↦
          let none = not_passing p c.args.man t (λ pawn target. other (same_target _ _ (sym target ∙ c.in-Some.ensures.some.1))) in
          let shield = shielded p c.args.man c.args.from t c.king.result c.shelter-shelter.ensures.admissible c.requires.stands c.requires.mine c.requires.other c.king.ensures goes none in
          let kept = c.shelter-shelter.ensures.kept t (goes_on_board p c.args.man c.args.from t goes) in
          let same = c.set.ensures.others t other in
          (λ one. shield.0 (kept.0 (sym same ∙ one)), λ safe. same ∙ kept.1 (shield.1 safe))
    ]
