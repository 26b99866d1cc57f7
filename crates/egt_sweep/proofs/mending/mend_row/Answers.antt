use Rattle.std.proofs.Common.{◌∙◌, ◌+◌, slice_index, sym, subst}
use Rattle.egt_sweep.specs.FillPrelude.{code_of, kind_less, number_in, due_score, square_in, IsPutAt}
use Rattle.egt_sweep.proofs.RowMended.{due_row, row_ended, row_mended, row_right}
use Rattle.egt_sweep.proofs.mending.mend_row.Goals as goal

pub returns-then-is_empty-2-clause-right : goal.returns-then-is_empty-2-clause-right
returns-then-is_empty-2-clause-right c = λ told.
    due_row c.args.part c.args.table.now c.args.shelf.now c.args.scores c.args.zeroing c.args.ended.now c.row_seen.result.0 c.row_seen.result.1 c.row_seen.ensures c.requires.ended
    (c.is_empty.ensures.0 c.if-is_empty.true) (c.is_empty-then-is_empty.ensures.0 c.if-is_empty-2.true)

pub returns-then-put_lanes-clause-mended : goal.returns-then-put_lanes-clause-mended
returns-then-put_lanes-clause-mended c =
    row_mended
    c.args.part c.args.table.now c.see_ends.new.table c.put_lanes.new.table c.args.shelf.now c.requires.shelf (λ n n_in. c.numbers_stand_for_codes.ensures.number c.args.table.now.class n c.class-class.ensures.table.class_in n_in)
    c.args.scores c.args.zeroing c.args.ended.now c.row_seen.result.0 c.row_seen.result.1 c.union-seen.result c.row_seen.ensures c.requires.ended c.union-seen.ensures.squares (λ i. sym (c.intersection.ensures.squares i) ∙ c.is_empty-2.ensures.0 c.if-not-is_empty.false i)
    c.see_ends.ensures.mended (c.see_ends.ensures.right c.if-not-see_ends.false) c.put_lanes.ensures.mended

pub returns-else-put_lanes-clause-mended : goal.returns-else-put_lanes-clause-mended
returns-else-put_lanes-clause-mended c =
    row_mended
    c.args.part c.args.table.now c.see_ends.new.table c.put_lanes.new.table c.args.shelf.now c.requires.shelf (λ n n_in. c.numbers_stand_for_codes.ensures.number c.args.table.now.class n c.class-class.ensures.table.class_in n_in)
    c.args.scores c.args.zeroing c.args.ended.now c.row_seen.result.0 c.row_seen.result.1 c.union-seen.result c.row_seen.ensures c.requires.ended c.union-seen.ensures.squares (λ i. sym (c.intersection.ensures.squares i) ∙ c.is_empty-2.ensures.0 c.if-not-is_empty.false i)
    c.see_ends.ensures.mended (c.see_ends.ensures.right c.if-not-see_ends.false) c.put_lanes.ensures.mended

pub returns-then-put_lanes-clause-ended : goal.returns-then-put_lanes-clause-ended
returns-then-put_lanes-clause-ended c = λ told.
    row_ended
    c.args.part c.args.table.now c.see_ends.new.table c.put_lanes.new.table c.args.shelf.now c.requires.shelf (λ n n_in. c.numbers_stand_for_codes.ensures.number c.args.table.now.class n c.class-class.ensures.table.class_in n_in)
    c.args.scores c.args.zeroing c.args.ended.now c.row_seen.result.0 c.row_seen.result.1 c.union-seen.result c.row_seen.ensures c.requires.ended c.union-seen.ensures.squares (λ i. sym (c.intersection.ensures.squares i) ∙ c.is_empty-2.ensures.0 c.if-not-is_empty.false i)
    c.see_ends.ensures.mended (c.see_ends.ensures.right c.if-not-see_ends.false) c.put_lanes.ensures.mended

pub returns-then-put_lanes-clause-right : goal.returns-then-put_lanes-clause-right
returns-then-put_lanes-clause-right c = λ told.
    row_right
    c.args.part c.args.table.now c.see_ends.new.table c.put_lanes.new.table c.args.shelf.now c.requires.shelf (λ n n_in. c.numbers_stand_for_codes.ensures.number c.args.table.now.class n c.class-class.ensures.table.class_in n_in)
    c.args.scores c.args.zeroing c.args.ended.now c.row_seen.result.0 c.row_seen.result.1 c.union-seen.result c.row_seen.ensures c.requires.ended c.union-seen.ensures.squares (λ i. sym (c.intersection.ensures.squares i) ∙ c.is_empty-2.ensures.0 c.if-not-is_empty.false i)
    c.see_ends.ensures.mended (c.see_ends.ensures.right c.if-not-see_ends.false) c.put_lanes.ensures.mended
    (λ digit below has.
    let part = c.args.part in
    let shelf = c.args.shelf.now in
    let b = digit + kind_less shelf.men.last.kind in
    let b_in = square_in shelf.men.last.kind digit below in
    let mid = c.see_ends.new.table.class in
    let code = code_of mid (number_in mid shelf.number shelf.side digit) in
    subst (λ s. IsPutAt part c.put_lanes.new.table code s (due_score (slice_index c.args.zeroing b))) (c.due_in.ensures b b_in)
    (subst (λ k. IsPutAt part c.put_lanes.new.table code (slice_index c.due_in.result b) k) (c.due.ensures b b_in) (c.put_lanes.ensures.put c.if-put_lanes.true digit below has)))
