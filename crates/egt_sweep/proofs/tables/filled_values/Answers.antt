use Rattle.std.proofs.Common.{◌≡◌, ◌∙◌, None, Option, IfSome, subst, sym}
use Rattle.egt_sweep.specs.FillPrelude.{Values, Tables, beside, table_at, HasTrueChildren, IsTrueTable, IsTable, TableValue, Looks}
use Rattle.egt_sweep.proofs.FilledTables.{KeepsAll, values_are_true}
use Rattle.egt_sweep.proofs.tables.filled_values.Goals as goal

pub returns-clause-truth : goal.returns-clause-truth
returns-clause-truth c =
    let tables : Tables = table_at c.args.library.now in
    let f = c.in-Some.filling in
    let t : TableValue = c.put_due.new.table in
    let begun = c.in_ok-found.ensures in
    let class = c.put_due.ensures.class ∙ subst (λ (o : Option TableValue). IfSome o (λ u. u.class ≡ c.args.class)) c.in-Some-2.is begun.class in
    let lacks = subst (λ (o : Option TableValue). IfSome o (λ u. u.reach ≡ None)) c.in-Some-2.is begun.reach in
    let same = c.into_table-table.ensures in
    let children = subst (HasTrueChildren tables) (sym class) c.children_are_true.ensures in
    let right : KeepsAll f.part (beside (table_at f.library.now) t) t = subst (λ (o : Option Looks). IfSome o (λ looks. KeepsAll f.part (beside (table_at f.library.now) t) t)) c.in-Some-3.is c.in_ok-looks.ensures.right in
    let keeps = subst (λ library. KeepsAll Values (beside (table_at library) t) t) c.in-Some.ensures.library (subst (λ part. KeepsAll part (beside (table_at f.library.now) t) t) c.in-Some.ensures.part right) in
    subst IsTrueTable (sym same)
    (values_are_true c.children_have_smaller_numbers.ensures.smaller tables t (subst IsTable same c.class-class.ensures.table) children
    (c.put_due.ensures.reach c.in-Some.ensures.part ∙ lacks) keeps c.rules_are_kept_by_true_tables_alone.ensures)
