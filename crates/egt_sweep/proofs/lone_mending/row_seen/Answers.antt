use Rattle.std.proofs.Common.{arith, subst}
use Rattle.egt_sweep.specs.FillPrelude.{KeepsPart, beside, table_at}
use Rattle.egt_sweep.proofs.lone_mending.row_seen.Goals as goal

pub returns-then-lone_row_is_right-clause-due : goal.returns-then-lone_row_is_right-clause-due
returns-then-lone_row_is_right-clause-due c = λ is all digit below.
    let f = c.args.f.now in
    let t = c.args.table.now in
    let digits = c.requires.filling.piece.digits in
    let pair = c.if-first-row.false in let whole = c.if-first-ne0.false in
    let side = c.side_of-side.ensures in
    subst (λ i. KeepsPart f.part (beside (table_at f.library.now) t) t i) (omega (arith, side, pair, whole)) (c.lone_row_is_right.ensures c.if-lone_row_is_right.true digit (omega (arith, below, digits)))
