use Rattle.std.proofs.Common.{◌≡◌, arith}
use Rattle.egt_board.specs.Prelude.{bit_at, bit_at-lt, Rides-free}
use Rattle.egt_board.proofs.Bits.{bit_at-within}
use Rattle.egt_board.proofs.Sizes.{advances_few}
use Rattle.egt_board.proofs.board.Board.advances.Goals as goal

pub returns-clause-advances : goal.returns-clause-advances
returns-clause-advances c = λ t. (
  λ has.
      let rule = c.difference.ensures.squares t in
      let small = bit_at-lt c.ride.result.bits t in
      let small' = bit_at-lt c.occupied-occupied.result.bits t in
      let rode : bit_at c.ride.result.bits t ≡ 1 = omega arith in
      let free : bit_at c.occupied-occupied.result.bits t ≡ 0 = omega arith in
      record {
        rides = Rides-free _ _ _ _ t _ (λ u u_in. (c.occupied-occupied.ensures.free u).0) (rw (← c.farthest_advance.ensures.value, ← c.forward.ensures) ((c.ride.ensures t (bit_at-within c.ride.result.bits t (omega arith) rode)).0 rode));
        free = (c.occupied-occupied.ensures.free t).0 free;
      },
  λ a.
      let rule = c.difference.ensures.squares t in
      let rode = (c.ride.ensures t a.rides.away.on_board).1 (Rides-free _ _ _ _ t _ (λ u u_in. (c.occupied-occupied.ensures.free u).1) (rw (c.farthest_advance.ensures.value, c.forward.ensures) a.rides)) in
      let free = (c.occupied-occupied.ensures.free t).1 a.free in
      omega arith,
)

pub returns-clause-few : goal.returns-clause-few
returns-clause-few c = advances_few c.difference.result _ c.args.side c.args.from (omega arith) (λ t has. (returns-clause-advances c t).0 has)
