use Rattle.std.proofs.Common.{◌≡◌, cond, eqb, refl, ap, ◌∙◌, inl, inr, arith}
use Rattle.egt_lanes.specs.Prelude.{bit_at, cases_eq, false≢true, bit_at-lt, get_or-replicate, Rides, at, IsOpen}
use Rattle.egt_lanes.proofs.RaisedTwice.{raised_is}
use Rattle.egt_lanes.proofs.Sweeping.{from_edge, from_stop, past_square}
use Rattle.egt_lanes.proofs.walk.reached_from.Goals as goal

pub returns-in_default : goal.returns-in_default
returns-in_default c b b_in =
    raised_is 0 0 _ (λ t. Rides (IsOpen c.args.kings.bits b) 7 c.args.from t c.args.step) (λ t. at c.args.rows.now t b) (get_or-replicate 64 b 0 0 b_in)
    (from_edge (IsOpen c.args.kings.bits b) c.args.step c.args.from (λ t. at c.args.rows.now t b) (omega arith) c.in_default.ensures.off_board)

pub returns-then-contains : goal.returns-then-contains
returns-then-contains c b b_in =
    raised_is 0 (at c.args.rows.now c.in-Some.next b) _ (λ t. Rides (IsOpen c.args.kings.bits b) 7 c.args.from t c.args.step) (λ t. at c.args.rows.now t b) (ap (λ r. at c.args.rows.now r b) c.number-place.ensures.value)
    (from_stop (IsOpen c.args.kings.bits b) c.args.step c.args.from c.in-Some.next (λ t. at c.args.rows.now t b) (omega arith) c.in-Some.ensures.found
    (λ passes. let king = c.if-contains.ensures.0 refl in let none = passes.0 in omega (arith, king, none)))

pub returns : goal.returns
returns c b b_in =
    let free : bit_at c.args.kings.bits c.in-Some.next ≡ 0 = elim (cases_eq (bit_at c.args.kings.bits c.in-Some.next) 1) [
      | inl king ↦ absurd (false≢true (c.if-contains.ensures.1 king))
      | inr none ↦ omega (arith, bit_at-lt c.args.kings.bits c.in-Some.next)
    ] in
    past_square c.args.kings.bits c.args.step c.args.upward c.args.from c.in-Some.next b (λ t. at c.args.rows.now t b) (omega arith) c.requires.ray c.in-Some.ensures.found free
    (at c.args.rows.now c.number-place.result b) (at c.args.reached.now c.in-Some.next b) _ _ (ap (λ r. at c.args.rows.now r b) c.number-place.ensures.value)
    (c.requires.next c.in-Some.next b c.in-Some.ensures.found b_in) (c.without_lane.ensures b b_in ∙ ap (λ m. cond (eqb b c.in-Some.next) 0 (at c.args.reached.now m b)) c.number-place.ensures.value) (c.greater.ensures b b_in)
