use Rattle.std.proofs.Common.{◌≡◌, ◌∙◌, List, ap, refl, subst, sym}
use Rattle.egt_sweep.specs.FillPrelude.{HasChildren, HasTrueChildren, IsDrawn, IsLonePiece, TableValue, Tables, table_at}
use Rattle.egt_sweep.proofs.DrawnBytes.{values_known}
use Rattle.egt_sweep.proofs.FilledTables.{values_are_true}
use Rattle.egt_sweep.proofs.LonePut.{filling_is}
use Rattle.egt_sweep.proofs.tables.values_by_rows.Goals as goal

pub mend_lone_rows-requires : goal.mend_lone_rows-requires
mend_lone_rows-requires c =
    let t : TableValue = c.in-Ok.table in
    let is = c.in-Ok.ensures.table in
    let class : t.class ≡ c.args.class = ap (λ (u : TableValue). u.class) is in
    let mate = ap (λ (u : TableValue). u.mate) is ∙ c.from_entries-mate.ensures in
    let zeroing = ap (λ (u : TableValue). u.zeroing) is ∙ c.from_entries-zeroing.ensures in
    record {
      filling = filling_is _ t c.class-begun.ensures.table tt
          (values_known t (subst (λ (l : List _). IsDrawn t.class l) (sym mate) (subst (λ n. IsDrawn n c.in_ok-mate.mate.items) (sym class) c.in_ok-mate.ensures.drawn))
          (subst (λ (l : List _). IsDrawn t.class l) (sym zeroing) (subst (λ n. IsDrawn n c.in_ok-zeroing.zeroing.items) (sym class) c.in_ok-zeroing.ensures.drawn)))
          (subst (HasChildren (table_at c.args.library.now)) (sym class) c.requires.children) (subst (λ n. IsLonePiece n c.in-Some.man) (sym class) c.in-Some.ensures);
    }

pub returns-clause-truth : goal.returns-clause-truth
returns-clause-truth c =
    let tables : Tables = table_at c.args.library.now in
    let t : TableValue = c.mend_lone_rows.new.table in
    let mended = c.mend_lone_rows.ensures.mended in
    let is = c.in-Ok.ensures.table in
    values_are_true c.children_have_smaller_numbers.ensures.smaller tables t c.class-class.ensures.table
    (subst (HasTrueChildren tables) (sym (mended.class ∙ ap (λ (u : TableValue). u.class) is)) c.children_are_true.ensures)
    (mended.reach refl ∙ ap (λ (u : TableValue). u.reach) is) c.in-Some-mend_lone_rows.ensures.right c.rules_are_kept_by_true_tables_alone.ensures
