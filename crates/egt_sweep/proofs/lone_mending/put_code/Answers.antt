use Rattle.std.proofs.Common.{◌≡◌, ◌∙◌, ap, arith, subst, sym, slice_index}
use Rattle.egt_sweep.specs.FillPrelude.{Column, HasBytes, IsMendedAt, Part, column_of, entries_of, table_in}
use Rattle.egt_sweep.proofs.LonePut.{Anywhere, one_of, reach_mended, values_mended}
use Rattle.egt_table.specs.declared.column.Column.TheVariants as columns
use Rattle.egt_sweep.proofs.lone_mending.put_code.Goals as goal

pub returns-else-entry-ge254 : goal.returns-else-entry-ge254
returns-else-entry-ge254 c =
    let t = c.args.table.now in
    let code = c.args.code in
    let entry = c.args.entry in
    let one = c.put.ensures in
    let two = c.put-in-Values.ensures in
    let some = c.if-entry-eq0.false in
    let other = c.if-entry-eq2.false in
    let low = c.if-entry-ge254.false in
    let there = c.if-entry-eq0-2.false in
    let read : c.entry.result ≡ slice_index t.mate code = c.entry.ensures ∙ ap (λ (column : Column). slice_index (entries_of column t) code) (c.column_of.ensures ∙ ap column_of c.in-Values.is) in
    subst (λ (part : Part). IsMendedAt part Anywhere t c.put-in-Values.new.self) (sym c.in-Values.is)
    (values_mended t c.put.new.self c.put-in-Values.new.self code entry
    (one_of columns.Mate code entry t c.put.new.self one.class one.there one.columns one.reach one.here one.others)
    (one_of columns.Zeroing code entry c.put.new.self c.put-in-Values.new.self two.class two.there two.columns two.reach two.here two.others)
    (subst (λ (part : Part). HasBytes (table_in part t)) c.in-Values.is c.requires.bytes) (λ zero. omega (arith, zero, read, there))
    (record { some = λ zero. omega (arith, zero, some); other = λ is. omega (arith, is, other); low = omega (arith, low) }))

pub returns-else-entry-ge128 : goal.returns-else-entry-ge128
returns-else-entry-ge128 c =
    let t = c.args.table.now in
    let code = c.args.code in
    let one = c.put-in-Reach.ensures in
    let some = c.if-entry-eq0.false in
    let low = c.if-entry-ge128.false in
    let there = c.if-entry-eq0-2.false in
    let read : c.entry.result ≡ slice_index (entries_of columns.Reach t) code = c.entry.ensures ∙ ap (λ (column : Column). slice_index (entries_of column t) code) (c.column_of.ensures ∙ ap column_of c.in-Reach.is) in
    subst (λ (part : Part). IsMendedAt part Anywhere t c.put-in-Reach.new.self) (sym c.in-Reach.is)
    (reach_mended t c.put-in-Reach.new.self code c.args.entry
    (one_of columns.Reach code c.args.entry t c.put-in-Reach.new.self one.class one.there one.columns one.reach one.here one.others)
    (subst (λ (part : Part). HasBytes (table_in part t)) c.in-Reach.is c.requires.bytes) (λ zero. omega (arith, zero, read, there)) (λ zero. omega (arith, zero, some)) (omega (arith, low)))
