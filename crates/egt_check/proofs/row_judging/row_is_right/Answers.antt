use Rattle.std.proofs.Common.{◌==◌, if◌then◌else◌, ◌≡◌, ◌≢◌, ◌∙◌, ℕ, ◌+◌, ◌*◌, ap, arith, refl, sym, subst, slice_index}
use Rattle.egt_check.specs.Prelude.{get_or-replicate, code_of, kind_less, number_in, due_score, TableValue, Column}
use Rattle.egt_check.specs.Prelude.{Zeroing, Part, Values, Reach, column_of, IsRightAtOf, IsRightEndOf, due_in}
use Rattle.egt_check.specs.Prelude.{column_score, score_at, square_in}
use Rattle.egt_check.proofs.ByteJudged.{if_not, if_same}
use Rattle.egt_check.proofs.RowJudged.{lane_is}
use Rattle.egt_check.proofs.row_judging.row_is_right.Goals as goal

-- entries that are due to the scores, or tell an end where there are none, are right
right_at : (part : Part) (t : TableValue) (i score zeroing : ℕ) → (score ≢ 0 → column_score t (column_of part) i ≡ due_in part score) → (score ≢ 0 → part ≡ Values → score_at t Zeroing i ≡ due_score zeroing) → (score ≡ 0 → IsRightEndOf part t i)
    → IsRightAtOf part t i score zeroing
right_at Values t i score zeroing due clock end = record { due = λ can. (due can, clock can refl); end = end }
right_at Reach t i score zeroing due clock end = record { due = due; end = end }

pub returns : goal.returns
returns c = λ right digit below some.
    let t = c.args.table.now in
    let men = c.args.shelf.now.men in
    let part = c.args.part in
    let shelf = c.args.shelf.now.number in
    let side = c.args.shelf.now.side in
    let b = digit + kind_less men.last.kind in
    let b_in = square_in men.last.kind digit below in
    let own = slice_index c.row_of-own.result b in
    let moves = slice_index c.args.scores b in
    let code = code_of t.class (number_in t.class shelf side digit) in
    let own_is : own ≡ column_score t (column_of part) code = subst (λ (column : Column). own ≡ column_score t column code) c.column_of.ensures (lane_is c.args.shelf.now.targeted t c.column_of.result men shelf side c.requires.shelf c.codes_tell_turned_men.ensures.one digit own below (c.row_of-own.ensures b b_in)) in
    let there : own ≢ 0 = λ none. some (sym own_is ∙ none) in
    let marked : slice_index c.unlike-within.result b ≡ (if moves == 0 then 0 else own) =
    c.unlike-within.ensures b b_in ∙ ap (λ n. if moves == n then 0 else own) (get_or-replicate 64 b 0 0 b_in) in
    let within : moves ≢ 0 → slice_index c.unlike-within.result b ≢ 0 = λ can none.
    there (sym (marked ∙ if_not moves 0 0 own can) ∙ none) in
    right_at part t code moves (slice_index c.args.zeroing b) (λ can. sym own_is ∙ c.differ.ensures.alike c.if-differ.false b b_in (within can) ∙ c.due_in.ensures b b_in)
    (λ can is. c.clock_is_due.ensures c.if-not-clock_is_due.false is digit below (within can))
    (λ stuck.
    let outside = marked ∙ if_same moves 0 0 own stuck in
    let differs : slice_index c.unlike.result b ≡ own =
    c.unlike.ensures b b_in ∙ if_not own (slice_index c.unlike-within.result b) 0 own (λ e. there (e ∙ outside)) in
    let some_left = λ (e : slice_index c.unlike.result b ≡ 0). there (sym differs ∙ e) in
    let left = c.lanes_of-ends.ensures b b_in ∙ if_not (slice_index c.unlike.result b) 0 0 1 some_left in
    let first = c.first_of.ensures ∙ ap (λ k. number_in k shelf side 0) c.class.ensures.class in
    let at : c.first_of.result + 2 * digit ≡ number_in t.class shelf side digit = omega (arith, first) in
    subst (λ (k : ℕ). IsRightEndOf part t (code_of t.class k)) at (c.ends_are_right.ensures right digit below left))
