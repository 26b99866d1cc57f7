use Rattle.std.proofs.Common.{◌≡◌, ◌∙◌, ◌<◌, ℕ, Option, Some, Result, IfOk, IfSome, subst, sym}
use Rattle.egt_sweep.specs.FillPrelude.{size_of, CodeScores, IsDrawnIndex, Reach, HasReachChildren, Tables, beside, table_at}
use Rattle.egt_sweep.specs.FillPrelude.{HasTrueChildren, IsTrueTable, IsTable, TableValue, IsWithReach, Looks}
use Rattle.egt_table.specs.declared.column.Column.TheVariants as columns
use Rattle.egt_sweep.proofs.FilledTables.{KeepsAll, reach_is_true, with_true_reach}
use Rattle.egt_sweep.proofs.tables.filled_reach.Goals as goal

pub with_drawn_reach-requires-clause-drawn : goal.with_drawn_reach-requires-clause-drawn
with_drawn_reach-requires-clause-drawn c = subst (λ n. (code : ℕ) → code < size_of n → IsDrawnIndex c.in-Ok-Some.scores code) c.class-class.ensures.class (subst (λ (o : Option CodeScores). IfSome o (λ rows. (code : ℕ) → code < size_of c.class-class.result → IsDrawnIndex rows code)) c.in-Ok-Some.field-0-is c.in-Ok-Some.ensures.drawn)

pub returns-in-Ok-Some-told : goal.returns-in-Ok-Some-told
returns-in-Ok-Some-told c =
    let tables : Tables = table_at c.args.library.now in
    let f = c.in-Some.filling in
    let old : TableValue = c.args.table in
    let t : TableValue = c.put_due-told.new.table in
    let begun = c.in-Ok.ensures.with in
    let with : IsWithReach old t = record {
      class = c.put_due-told.ensures.class ∙ begun.class;
      mate = c.put_due-told.ensures.mate c.in-Some.ensures.part ∙ begun.mate;
      zeroing = c.put_due-told.ensures.zeroing c.in-Some.ensures.part ∙ begun.zeroing;
      reach = c.put_due-told.ensures.there columns.Reach begun.reach;
    } in
    let children = subst (HasTrueChildren tables) (sym (with.class ∙ sym c.class-class.ensures.class)) c.children_are_true.ensures in
    let reach_children = subst (HasReachChildren tables) (sym with.class) c.requires.reach_children in
    let some : c.in-Ok-Some-told.field-0 ≡ Some c.in-Ok-Some-told._looks = cc in
    let right : KeepsAll f.part (beside (table_at f.library.now) t) t = subst (λ (o : Option Looks). IfSome o (λ looks. KeepsAll f.part (beside (table_at f.library.now) t) t)) some (subst (λ (r : Result (Option Looks) _). IfOk r (λ o. IfSome o (λ looks. KeepsAll f.part (beside (table_at f.library.now) t) t))) c.in-Ok-Some-told.is c.put_due-told.ensures.right) in
    let keeps = subst (λ library. KeepsAll Reach (beside (table_at library) t) t) c.in-Some.ensures.library (subst (λ part. KeepsAll part (beside (table_at f.library.now) t) t) c.in-Some.ensures.part right) in
    let same = c.into_table-table.ensures in
    subst (λ (u : TableValue). IsWithReach old u × IsTrueTable u) (sym same) (
      with,
      with_true_reach old t with c.requires.truth
          (reach_is_true c.children_have_smaller_numbers.ensures.smaller tables t (subst IsTable same c.class-class-2.ensures.table) children reach_children with.reach keeps c.kept_reaches_are_true.ensures),
    )
