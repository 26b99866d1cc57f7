use Rattle.std.proofs.Common.{◌≡◌, ◌∙◌, subst, sym, arith, slice_index}
use Rattle.egt_lanes.specs.Prelude.{Rides, at, IsOpen, IsRaised}
use Rattle.egt_lanes.proofs.Sweeping.{next_is_past, nth, nth_is, swept_more}
use Rattle.egt_lanes.proofs.walk.raise_ray.Goals as goal

pub reached_from-row-requires-clause-next : goal.reached_from-row-requires-clause-next
reached_from-row-requires-clause-next c = grind (arith, nth_is, next_is_past, c.nth_square-from.ensures, c.requires.order, c.loop-k.invariant.known, c.loop-k-test.true)

pub loop-k-preserved : goal.loop-k-preserved
loop-k-preserved c =
    let place = c.number-place.result in
    let here : place ≡ nth c.args.upward c.loop-k.k = c.number-place.ensures.value ∙ c.nth_square-from.ensures ∙ nth_is c.args.upward c.loop-k.k in
    swept_more c.args.kings.bits c.args.step c.args.upward c.args.rows.now c.args.out.now c.loop-k.out c.loop-k.reached c.loop-k.k c.loop-k-test.true c.loop-k.invariant place here c.reached_from-row.result c.greater.result
    (λ b b_in. subst (λ s. IsRaised 0 (λ t. Rides (IsOpen c.args.kings.bits b) 7 s t c.args.step) (λ t. at c.args.rows.now t b) (slice_index c.reached_from-row.result b)) (sym c.number-place.ensures.value) (c.reached_from-row.ensures b b_in))
    c.greater.ensures
