use Rattle.std.proofs.Common.{◌≡◌, ◌∙◌, ◌+◌, ap, slice_index}
use Rattle.egt_check.specs.Prelude.{bit_at, code_of, kind_less, number_in, column_score, square_in}
use Rattle.egt_check.proofs.Marks.{bit_shifted, mark}
use Rattle.egt_check.proofs.RowJudged.{lane_is}
use Rattle.egt_check.proofs.voids.marks_of.Goals as goal

pub returns : goal.returns
returns c = λ k below.
    let t = c.args.table.now in
    let men = c.args.men.now in
    let b = k + kind_less men.last.kind in
    let b_in = square_in men.last.kind k below in
    let lane = slice_index c.row-row.result b in
    let score : lane ≡ column_score t c.args.column (code_of t.class (number_in t.class c.args.shelf c.args.side k)) =
    lane_is c.args.targeted t c.args.column men c.args.shelf c.args.side c.requires.shelf c.codes_tell_turned_men.ensures.one k lane below (c.row-row.ensures b b_in) in
    bit_shifted c.lanes_of.result.bits c.first_square.result k ∙ ap (λ less. bit_at c.lanes_of.result.bits (k + less)) c.first_square.ensures ∙ c.lanes_of.ensures b b_in ∙ ap mark score
