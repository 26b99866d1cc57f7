use Rattle.std.proofs.lemmas.Bool.{eqb-true}
use Rattle.egt_lanes.proofs.LanesCompared.{all_none}
use Rattle.egt_lanes.proofs.alike.are_alike.Goals as goal

pub returns : goal.returns
returns c = λ none i i_in. c.unlike.ensures i i_in ((all_none 0 c.unlike.result (eqb-true _ _ none)).1 i)
