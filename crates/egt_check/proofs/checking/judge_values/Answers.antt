use Rattle.std.proofs.Common.{refl, subst}
use Rattle.egt_check.specs.Prelude.{size_of, IsFirstBad, table_at, beside, keeps_both}
use Rattle.egt_check.proofs.checking.judge_values.Goals as goal

pub returns-in-Ok-None-clause-exact : goal.returns-in-Ok-None-clause-exact
returns-in-Ok-None-clause-exact c =
    let t = c.args.table.now in
    let tables = beside (table_at c.args.library.now) t in
    let n = size_of t.class in
    let zeroing = subst (IsFirstBad tables t n) c.in-Ok-None.field-0-is c.in-Ok-None.ensures.zeroing in
    ((λ ok. keeps_both tables t n c.in-Ok-None.ensures.kept zeroing), (λ all. refl))
