use Rattle.egt_blocks.proofs.AdvanceRaising.{lacked}
use Rattle.egt_blocks.proofs.advance_blocks.past_kings.Goals as goal

pub returns : goal.returns
returns c = λ u u_in.
    let is = lacked c.kings_of.result.bits _ u u_in (c.difference.ensures.squares u) in
    ((λ has. (c.kings_of.ensures u).0 (is.0 has)), (λ past. is.1 ((c.kings_of.ensures u).1 past)))
