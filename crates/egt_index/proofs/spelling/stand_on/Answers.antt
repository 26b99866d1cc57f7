use Rattle.std.proofs.Common.{sym, subst, IfNone}
use Rattle.egt_index.specs.Prelude.{material_of, SpellsMen, SpellsNoMen, IsFilled, list_of, Stand}
use Rattle.egt_index.proofs.spelling.stand_on.Goals as goal

pub returns-in_err-before-clause-none : goal.returns-in_err-before-clause-none
returns-in_err-before-clause-none c =
    subst (λ o. IfNone o (SpellsNoMen (material_of c.args.class) c.args.number)) (sym c.from_residual.ensures)
    (c.in_err-before.ensures.none c.args.number _ c.take_last-high.ensures)

pub returns-clause-some : goal.returns-clause-some
returns-clause-some c =
    subst (λ (stand : Stand). SpellsMen (material_of c.args.class) c.args.number (list_of stand)) (sym c.with_last.ensures) (c.in_ok-before.ensures.some.men c.args.number _ c.take_last-high.ensures)

pub returns-clause-filled : goal.returns-clause-filled
returns-clause-filled c = subst IsFilled (sym c.with_last.ensures) (c.in_ok-before.ensures.some.filled c.args.number _ c.take_last-high.ensures)
