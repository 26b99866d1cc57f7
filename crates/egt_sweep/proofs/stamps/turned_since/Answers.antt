use Rattle.std.proofs.Common.{◌∙◌, ◌%◌, ◌≤◌, true, slice_index, sym, subst}
use Rattle.egt_sweep.specs.FillPrelude.{false≢true, Side, turned_square, stamp_place}
use Rattle.egt_sweep.proofs.StampPlaces.{none_turned}
use Rattle.egt_sweep.proofs.stamps.turned_since.Goals as goal

pub returns-then-has_equal_sides : goal.returns-then-has_equal_sides
returns-then-has_equal_sides c = λ none.
    none_turned c.args.class c.args.white c.args.black c.args.side c.args.stamps.now c.args.looked (c.any_changed.ensures c.if-any_changed.false)
    (λ _ t is. subst (λ (s : Side). slice_index c.args.stamps.now (stamp_place s (turned_square (t % 8) true c.args.black) (turned_square (t % 8) true c.args.white)) ≤ c.args.looked) c.other.ensures
    (c.any_changed-then-has_equal_sides.ensures none t is))

pub returns-else-has_equal_sides : goal.returns-else-has_equal_sides
returns-else-has_equal_sides c = λ none.
    none_turned c.args.class c.args.white c.args.black c.args.side c.args.stamps.now c.args.looked (c.any_changed.ensures c.if-any_changed.false)
    (λ equal. absurd (false≢true (sym none ∙ c.has_equal_sides.ensures ∙ equal)))
