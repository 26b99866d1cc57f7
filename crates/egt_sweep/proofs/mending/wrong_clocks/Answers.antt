use Rattle.std.proofs.Common.{◌≡◌, ◌∙◌, ◌+◌, ℕ, sym, slice_index}
use Rattle.egt_sweep.specs.FillPrelude.{bit_at, kind_less, square_in, Part, lane_is}
use Rattle.egt_table.specs.declared.column.Column.TheVariants as columns
use Rattle.egt_check.specs.declared.part.Part.TheVariants as parts
use Rattle.egt_sweep.proofs.LanesPut.{same_there}
use Rattle.egt_sweep.proofs.mending.wrong_clocks.Goals as goal

-- no part is both
not_both : (part : Part) → part ≡ parts.Reach → part ≡ parts.Values → (X : Type 0) → X
not_both part reach values X = let both : parts.Reach ≡ parts.Values = sym reach ∙ values in cc

pub returns-in-Values : goal.returns-in-Values
returns-in-Values c = λ digit below none is.
    let t = c.args.table.now in
    let shelf = c.args.shelf.now in
    let b : ℕ = digit + kind_less shelf.men.last.kind in
    let b_in = square_in shelf.men.last.kind digit below in
    sym (lane_is shelf.targeted t columns.Zeroing shelf.men shelf.number shelf.side c.requires.shelf.of c.codes_tell_turned_men.ensures.one digit (slice_index c.row-own.result b) below (c.row-own.ensures b b_in))
    ∙ same_there (slice_index c.row-own.result b) (slice_index c.args.clocks b) b (slice_index c.unlike.result b) (bit_at c.lanes_of.result.bits b) b_in (c.unlike.ensures b b_in) (c.lanes_of.ensures b b_in) none

pub returns-in-Reach : goal.returns-in-Reach
returns-in-Reach c = λ digit below none is. not_both c.args.part c.in-Reach.is is _
