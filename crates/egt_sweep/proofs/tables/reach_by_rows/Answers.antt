use Rattle.std.proofs.Common.{◌≡◌, ◌∙◌, List, IsSome, ap, refl, subst, sym}
use Rattle.egt_sweep.specs.FillPrelude.{HasChildren, HasReachChildren, HasTrueChildren, IsDrawn, IsLonePiece, TableValue, Tables, entries_or_none}
use Rattle.egt_sweep.specs.FillPrelude.{IsWithReach, table_at}
use Rattle.egt_table.specs.declared.column.Column.TheVariants as columns
use Rattle.egt_sweep.proofs.DrawnBytes.{reach_known}
use Rattle.egt_sweep.proofs.FilledTables.{reach_is_true, with_true_reach}
use Rattle.egt_sweep.proofs.LonePut.{filling_is}
use Rattle.egt_sweep.proofs.tables.reach_by_rows.Goals as goal

pub mend_lone_rows-told-requires : goal.mend_lone_rows-told-requires
mend_lone_rows-told-requires c =
    let tables : Tables = table_at c.args.library.now in
    let t : TableValue = c.in-Ok-with_reach.table in
    let is = c.in-Ok-with_reach.ensures.table in
    let class : t.class ≡ c.args.table.class = ap (λ (u : TableValue). u.class) is in
    let reach = ap (λ (u : TableValue). u.reach) is in
    let there : IsSome t.reach = subst IsSome (sym reach) refl in
    let entries = ap entries_or_none reach ∙ c.from_entries.ensures in
    let known = class ∙ sym c.class-class.ensures.class in
    record {
      filling = filling_is _ t c.class-begun.ensures.table there
          (reach_known t (subst (λ (l : List _). IsDrawn t.class l) (sym entries) (subst (λ n. IsDrawn n c.in-Ok.entries.items) (sym known) c.in-Ok.ensures.drawn)))
          (there, subst (HasChildren tables) (sym class) c.requires.children, subst (HasReachChildren tables) (sym class) c.requires.reach_children)
          (subst (λ n. IsLonePiece n c.in-Some.man) (sym known) c.in-Some.ensures);
    }

pub returns-in-Some-told : goal.returns-in-Some-told
returns-in-Some-told c =
    let tables : Tables = table_at c.args.library.now in
    let old : TableValue = c.args.table in
    let t : TableValue = c.mend_lone_rows-told.new.table in
    let mended = c.mend_lone_rows-told.ensures.mended in
    let is = c.in-Ok-with_reach.ensures.table in
    let with : IsWithReach old t = record {
      class = mended.class ∙ ap (λ (u : TableValue). u.class) is;
      mate = mended.mate refl ∙ ap (λ (u : TableValue). u.mate) is;
      zeroing = mended.zeroing refl ∙ ap (λ (u : TableValue). u.zeroing) is;
      reach = mended.there columns.Reach (subst IsSome (sym (ap (λ (u : TableValue). u.reach) is)) refl);
    } in (
      with,
      with_true_reach old t with c.requires.truth
          (reach_is_true c.children_have_smaller_numbers.ensures.smaller tables t c.class-class-2.ensures.table
          (subst (HasTrueChildren tables) (sym (with.class ∙ sym c.class-class.ensures.class)) c.children_are_true.ensures) (subst (HasReachChildren tables) (sym with.class) c.requires.reach_children)
          with.reach c.in-Some-told.ensures.right c.kept_reaches_are_true.ensures),
    )
