use Rattle.std.proofs.Common.{◌≡◌, ◌≢◌, ◌∙◌, ℕ, ◌+◌, ◌<◌, arith, sym, subst, slice_set}
use Rattle.egt_check.specs.Prelude.{length-set, code_of, number_of, kind_digits, kind_less, size_of, AreShelvesOf}
use Rattle.egt_sweep.specs.FillPrelude.{IsCodeOf, IsMendedAt, IsShelf, shelf_at, AllEnded, AreRightRows, IsCodeIn}
use Rattle.egt_sweep.specs.FillPrelude.{Mended, Shelf}
use Rattle.egt_sweep.proofs.RowsMended.{more_ended, more_mended, more_right, shelf_same}
use Rattle.egt_sweep.proofs.mending.mend_shelves.Goals.{After-mend_row-row_found, in-Due, in-Put}
use Rattle.egt_sweep.specs.declared.mending.Mended.TheVariants as mends
use Rattle.egt_sweep.proofs.mending.mend_shelves.Goals as goal

-- what a look came to is one thing
due_told : (m : Mended) → m ≡ mends.Due → m ≢ mends.Untold
due_told m is told = cc

put_told : (m : Mended) → m ≡ mends.Put → m ≢ mends.Untold
put_told m is told = cc

put_due : (m : Mended) → m ≡ mends.Put → m ≢ mends.Due
put_due m is due = cc

pub mend_row-row_found-requires-clause-shelf : goal.mend_row-row_found-requires-clause-shelf
mend_row-row_found-requires-clause-shelf c =
    let shelves = c.args.shelves.now in
    let l = c.loop-digit.table in
    let d = c.loop-digit.digit in
    let are : AreShelvesOf shelves.targeted l.class shelves.men shelves.number = subst (λ k. AreShelvesOf shelves.targeted k shelves.men shelves.number) (c.class.ensures.class ∙ sym c.loop-digit.invariant.0.class) (c.begin_with.ensures c.if-not-begin_with.false) in
    let under = c.loop-digit-test.true in
    let many = c.digits_of-digit-end.ensures in
    let from = c.first_square-from.ensures in
    let on = c.at.ensures in
    let same = shelf_same shelves c.from.result c.men_on.result d c.at.result c.from.ensures c.men_on.ensures (omega (arith, on, from)) in
    subst (λ (s : Shelf). IsShelf l.class s) (sym same) (record { of = (are d (omega (arith, under, many))).0; within = (are d (omega (arith, under, many))).1 })

-- one more row was put
row_put : (c : After-mend_row-row_found) → let l = c.loop-digit in let new = c.mend_row-row_found.new in
    IsMendedAt c.args.part (IsCodeIn c.args.table.now.class c.args.shelves.now) c.args.table.now new.table
    × (c.mend_row-row_found.result ≢ mends.Untold → AllEnded c.args.part new.table c.args.shelves.now (slice_set l.ended c.from-row.result new.ended))
    × (c.mend_row-row_found.result ≢ mends.Untold → AreRightRows c.args.part new.table c.args.shelves.now c.args.scores.now c.args.zeroing.now (l.digit + 1))
row_put c =
    let shelves = c.args.shelves.now in
    let l = c.loop-digit.table in
    let new = c.mend_row-row_found.new.table in
    let d = c.loop-digit.digit in
    let part = c.args.part in
    let class = c.class.ensures.class ∙ sym c.loop-digit.invariant.0.class in
    let are : AreShelvesOf shelves.targeted l.class shelves.men shelves.number = subst (λ k. AreShelvesOf shelves.targeted k shelves.men shelves.number) class (c.begin_with.ensures c.if-not-begin_with.false) in
    let class_in = subst (λ k. k < 36) (sym c.loop-digit.invariant.0.class) c.class.ensures.table.class_in in
    let numbers : (n : ℕ) → n < size_of l.class → number_of l.class (code_of l.class n) ≡ n = λ n n_in. c.numbers_stand_for_codes.ensures.number l.class n class_in n_in in
    let under = c.loop-digit-test.true in
    let many = c.digits_of-digit-end.ensures in
    let from = c.first_square-from.ensures in
    let on = c.at.ensures in
    let at_row = c.from-row.ensures in
    let d_in : d < kind_digits shelves.men.first.kind = omega (arith, under, many) in
    let same = shelf_same shelves c.from.result c.men_on.result d c.at.result c.from.ensures c.men_on.ensures (omega (arith, on, from)) in
    let mended : IsMendedAt part (IsCodeOf l.class (shelf_at shelves d)) l new = subst (λ (s : Shelf). IsMendedAt part (IsCodeOf l.class s) l new) same c.mend_row-row_found.ensures.mended in
    let place : c.from-row.result ≡ d + kind_less shelves.men.first.kind = omega (arith, at_row, from) in
    let row : Shelf = record { number = shelves.number + c.from.result; men = c.men_on.result; side = shelves.side; targeted = shelves.targeted } in (
      more_mended part l new shelves are numbers d d_in mended c.args.table.now row same c.loop-digit.ended c.loop-digit.invariant.2 c.from-row.result place c.mend_row-row_found.new.ended c.args.scores.now c.args.zeroing.now c.loop-digit.invariant.0,
      λ told. more_ended part l new shelves are numbers d d_in mended c.args.table.now row same c.loop-digit.ended c.loop-digit.invariant.2 c.from-row.result place c.mend_row-row_found.new.ended c.args.scores.now c.args.zeroing.now c.loop-digit.invariant.3 (c.mend_row-row_found.ensures.ended told),
      λ told. more_right part l new shelves are numbers d d_in mended c.args.table.now row same c.loop-digit.ended c.loop-digit.invariant.2 c.from-row.result place c.mend_row-row_found.new.ended c.args.scores.now c.args.zeroing.now c.loop-digit.invariant.4 (c.mend_row-row_found.ensures.right told),
    )

pub returns-in-Untold-clause-mended : goal.returns-in-Untold-clause-mended
returns-in-Untold-clause-mended c = (row_put (goal.at.returns-in-Untold-clause-mended c).After-mend_row-row_found).0

pub loop-digit-preserved : goal.loop-digit-preserved
loop-digit-preserved c =
    let put = row_put (goal.at.loop-digit-preserved c).After-mend_row-row_found in
    let told : c.mend_row-row_found.result ≢ mends.Untold = elim c.match-row_found.branch [ in-Due w ↦ due_told c.mend_row-row_found.result w.in-Due.is | in-Put w ↦ put_told c.mend_row-row_found.result w.in-Put.is ] in (
      put.0,
      λ is. elim c.match-row_found.branch [
        | in-Due w ↦ c.mend_row-row_found.ensures.due w.in-Due.is ∙ c.loop-digit.invariant.1 (sym w.found-is ∙ is)
        | in-Put w ↦ absurd (put_due c.match-row_found.found w.found-is is)
      ],
      length-set c.loop-digit.ended c.from-row.result c.mend_row-row_found.new.ended ∙ c.loop-digit.invariant.2,
      put.1 told,
      put.2 told,
    )

pub returns-clause-shelves : goal.returns-clause-shelves
returns-clause-shelves c = λ told. subst (λ k. AreShelvesOf c.args.shelves.now.targeted k c.args.shelves.now.men c.args.shelves.now.number) c.class.ensures.class (c.begin_with.ensures c.if-not-begin_with.false)
