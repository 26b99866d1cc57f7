use Rattle.std.proofs.lemmas.Bool.{eqb-true}
use Rattle.egt_lanes.proofs.LanesCompared.{all_none}
use Rattle.egt_lanes.proofs.near.are_near.Goals as goal

pub returns : goal.returns
returns c = λ none i i_in. c.far.ensures i i_in ((all_none 0 c.far.result (eqb-true _ _ none)).1 i)
