use Rattle.std.proofs.Common.{◌+◌, ◌⊎◌, ℕ, refl, subst}
use Rattle.egt_sweep.specs.FillPrelude.{All-contains, Setup, Side, Spells, IsIndex, IsVoid, ShelfMen, TableValue, Column}
use Rattle.egt_sweep.specs.FillPrelude.{with_kings, AreBlank, AreTablesOf, IsOwnTable, column_of, four_in, tables_in}
use Rattle.egt_sweep.specs.FillPrelude.{FourMenTables, blank_kept, tables_of_there, AreAllJudged, IsDueItem, tables_with}
use Rattle.egt_sweep.specs.FillPrelude.{IsFilling, Filling, Item}
use Rattle.egt_sweep.proofs.DueJudged.{DueAreRight, all_due_judged}
use Rattle.egt_sweep.proofs.covering.pair_is_covered.Goals as goal

module _ (f : Filling) (table : TableValue) (filling : IsFilling f) (own : IsOwnTable f.part f.class f.men table) where
  abbrev four_of : FourMenTables
  four_of = record { own = table; children = f.children }

  are_tables : AreTablesOf (tables_in f.part (tables_with f table)) (four_in f.part four_of) f.men
  are_tables = (filling.four four_of refl own).1

  item_judged : DueAreRight → (item : Item) → IsDueItem f table item → AreAllJudged f table item.first item.side
  item_judged right item due =
      all_due_judged right f.part (tables_with f table) four_of (with_kings f.men item.white item.black)
      (tables_of_there f.men item.white item.black (tables_in f.part (tables_with f table)) (four_in f.part four_of) are_tables)
      filling.children.one filling.children.last table refl f.children refl item.first f.half item.side due

  no_position_judged : ((i : ℕ) → ((p : Setup) × Spells table.class i p × IsIndex table.class p i) ⊎ IsVoid table.class i) → (first : ℕ) (side : Side)
      → AreBlank table (column_of f.part) f.men first side × AreBlank table (column_of f.part) f.men (first + f.half) side → AreAllJudged f table first side
  no_position_judged or_void first side blank = (
    (λ x y x_in y_in. blank_kept f.part (tables_with f table) table are_tables.is_table own.bytes or_void _ (blank.0 x y x_in y_in)),
    (λ x y x_in y_in. blank_kept f.part (tables_with f table) table are_tables.is_table own.bytes or_void _ (blank.1 x y x_in y_in)),
  )

pub returns-then-side_is_blank : goal.returns-then-side_is_blank
returns-then-side_is_blank c = λ _.
    let f = c.args.filling.now in
    let t = c.args.table.now in
    let seen = subst (λ (u : TableValue). AreBlank u c.column_of.result c.with_kings-there.result c.args.first c.args.side × AreBlank u c.column_of.result c.with_kings-there.result (c.args.first + f.half) c.args.side) c.of_found-own.ensures (c.side_is_blank.ensures c.if-side_is_blank.true) in
    let blank = subst (λ (column : Column). AreBlank t column c.with_kings-there.result c.args.first c.args.side × AreBlank t column c.with_kings-there.result (c.args.first + f.half) c.args.side) c.column_of.ensures seen in
    no_position_judged f t c.requires.filling c.requires.own (λ i. c.a_code_is_an_index_or_void.ensures t.class i c.requires.own.is_table.class_in) c.args.first c.args.side
    (subst (λ (men : ShelfMen). AreBlank t (column_of f.part) men c.args.first c.args.side × AreBlank t (column_of f.part) men (c.args.first + f.half) c.args.side) c.with_kings-there.ensures blank)

pub returns : goal.returns
returns c = λ told.
    let f = c.args.filling.now in
    let t = c.args.table.now in
    let (item, here, first, side) = c.has_item.ensures told in
    let judged = item_judged f t c.requires.filling c.requires.own c.entries_due_to_all_moves_are_right.ensures item (All-contains (IsDueItem f t) c.args.items.now item c.requires.due here) in
    subst (λ n. AreAllJudged f t n c.args.side) first (subst (λ (s : Side). AreAllJudged f t item.first s) side judged)
