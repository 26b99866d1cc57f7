use Rattle.std.proofs.Common.{ℕ, List, get_or, ap}
use Rattle.egt_lanes.specs.Prelude.{Q, R, B, N, Step, Away, Rides, OneOf, straight_steps, diagonal_steps, knight_steps}
use Rattle.egt_lanes.proofs.RaisedTwice.{raised_as}
use Rattle.egt_lanes.proofs.Riding.{HasBit, both_lists, OneOf-as, one_ride, ride_one, reached_by, no_piece}
use Rattle.egt_lanes.proofs.shift.last_man_raised.Goals as goal
use Rattle.egt_lanes.proofs.shift.last_man_raised.Goals.{in-Q, in-R, in-B, in-N, in-P}

pub returns : goal.returns
returns c s s_in =
    let F : ℕ → Type 0 = HasBit c.args.free.bits in
    let H : ℕ → Step → Type 0 = λ t. Rides F 7 s t in
    let f : ℕ → ℕ = λ t. get_or c.args.row t 0 in
    let at : List ℕ → ℕ = λ r. get_or r s 0 in
    let low : ℕ = at c.args.low in
    let side = c.args.man.side in
    let kind = c.args.man.kind in
    elim c.match-man.branch [
      | in-Q w ↦ reached_by low (at w.straight_raised.result) (at c.match-man.result) s F side kind Q f w.in-Q.is (ap at w.result-is)
          (both_lists low (at w.diagonal_raised.result) (at w.straight_raised.result) H f straight_steps diagonal_steps (w.diagonal_raised.ensures s s_in) (w.straight_raised.ensures s s_in))
      | in-R w ↦ reached_by low (at w.straight_raised-in-R.result) (at c.match-man.result) s F side kind R f w.in-R.is (ap at w.result-is) (w.straight_raised-in-R.ensures s s_in)
      | in-B w ↦ reached_by low (at w.diagonal_raised-in-B.result) (at c.match-man.result) s F side kind B f w.in-B.is (ap at w.result-is) (w.diagonal_raised-in-B.ensures s s_in)
      | in-N w ↦ reached_by low (at w.knight_raised.result) (at c.match-man.result) s F side kind N f w.in-N.is (ap at w.result-is)
          (raised_as low (at w.knight_raised.result) (λ t. OneOf (λ d. Away d 1 s t) knight_steps) (λ t. OneOf (Rides F 1 s t) knight_steps) f
          (λ t. OneOf-as (λ d. Away d 1 s t) (Rides F 1 s t) knight_steps (one_ride F s t))
          (λ t. OneOf-as (Rides F 1 s t) (λ d. Away d 1 s t) knight_steps (ride_one F s t))
          (w.knight_raised.ensures s s_in))
      | in-P w ↦ absurd (no_piece kind w.in-P.is c.requires)
    ]
