use Rattle.std.proofs.Common.{◌≡◌, ◌∙◌, ◌<◌, ℕ, ap, sym, subst}
use Rattle.egt_check.specs.Prelude.{bit_at, eqb-true, Side, White, Black, code_of, places, kind_digits, AreIndexes}
use Rattle.egt_check.specs.Prelude.{IsShelfOf, number_in, TableValue, column_score}
use Rattle.egt_table.specs.declared.column.Column.TheVariants as columns
use Rattle.egt_check.proofs.Marks.{mark, numbers_within, shelf_told}
use Rattle.egt_check.proofs.voids.tells_shelf.Goals as goal

pub marks_of-white-requires-clause-shelf : goal.marks_of-white-requires-clause-shelf
marks_of-white-requires-clause-shelf c = subst (λ k. IsShelfOf c.in-Some-is_targeted.targeted k c.args.shelf c.in-Some.men) (c.class-class.ensures.class ∙ ap (λ (u : TableValue). u.class) (sym c.of_table-own.ensures)) c.in-Some-is_targeted.ensures

pub marks_of-black-requires-clause-shelf : goal.marks_of-black-requires-clause-shelf
marks_of-black-requires-clause-shelf c = subst (λ k. IsShelfOf c.in-Some-is_targeted.targeted k c.args.shelf c.in-Some.men) (c.class-class.ensures.class ∙ ap (λ (u : TableValue). u.class) (sym c.of_table-own.ensures)) c.in-Some-is_targeted.ensures

pub returns-then-white-indexes : goal.returns-then-white-indexes
returns-then-white-indexes c = λ black.
    let t = c.args.table.now in
    let indexes = c.indexes_of-indexes.result in
    let are = subst (λ (k : ℕ). AreIndexes k c.args.shelf indexes) c.class-class.ensures.class c.indexes_of-indexes.ensures in
    let len = subst (λ k. places k ≡ kind_digits c.in-Some.men.last.kind) c.class-class.ensures.class c.in-Some.ensures.shelf.len in
    let marks = λ (bits : ℕ) (side : Side). subst (λ (u : TableValue). ((k : ℕ) → k < kind_digits c.in-Some.men.last.kind → bit_at bits k ≡ mark (column_score u columns.Mate (code_of u.class (number_in u.class c.args.shelf side k))))) c.of_table-own.ensures in
    shelf_told t c.requires.alike (λ n below. c.numbers_stand_for_codes.ensures.coded t.class n c.class-class.ensures.table.class_in below) c.args.shelf c.marks_of-white.result c.marks_of-black.result indexes
    (λ k below. marks c.marks_of-white.result White c.marks_of-white.ensures k (subst (λ n. k < n) len below)) (λ k below. marks c.marks_of-black.result Black c.marks_of-black.ensures k (subst (λ n. k < n) len below)) are c.if-white-indexes.true
    (eqb-true c.marks_of-black.result indexes.black black) (numbers_within t c.args.shelf c.requires.within)
