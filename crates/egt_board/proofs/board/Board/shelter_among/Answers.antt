use Rattle.std.specs.Prelude.{refl}
use Rattle.egt_board.specs.Prelude.{bit_at-lt, StopsSlot}
use Rattle.egt_board.proofs.Sheltering.{all_of_four, kept_as}
use Rattle.egt_board.proofs.board.Board.shelter_among.Goals as goal

pub returns : goal.returns
returns c = λ men seen t newcomer t_in foreign.
    let a = c.self.inside in
    let occupied = c.args.occupied.bits in
    let all = all_of_four (StopsSlot occupied c.args.side c.args.to t a.first) (StopsSlot occupied c.args.side c.args.to t a.second) (StopsSlot occupied c.args.side c.args.to t a.third) (StopsSlot occupied c.args.side c.args.to t a.fourth) _ _ _ _ _
    (bit_at-lt c.stops-first.result.bits t) (bit_at-lt c.stops-second.result.bits t) (bit_at-lt c.stops-third.result.bits t) (bit_at-lt c.stops-fourth.result.bits t)
    (rw (c.intersection-3.ensures.squares t, c.intersection.ensures.squares t, c.intersection-2.ensures.squares t) refl)
    (c.stops-first.ensures t t_in) (c.stops-second.ensures t t_in) (c.stops-third.ensures t t_in) (c.stops-fourth.ensures t t_in) in
    let kept = kept_as a c.args.self.now men occupied c.args.side c.args.to t newcomer c.self.invariant c.self.view_is seen foreign in
    (λ one. kept.0 (all.0 one), λ none. all.1 (kept.1 none))
