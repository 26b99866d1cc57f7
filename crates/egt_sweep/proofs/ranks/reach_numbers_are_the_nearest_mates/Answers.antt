use Rattle.egt_sweep.proofs.NearNumbers.{Reaching, number_is_reach, far_away}
use Rattle.egt_sweep.proofs.ranks.reach_numbers_are_the_nearest_mates.Goals as goal

pub returns-clause-numbers : goal.returns-clause-numbers
returns-clause-numbers c tables k i p number below children ok is near =
    let reaching : Reaching = record { more = c.more_plies_reach_more.ensures.more; least = c.more_plies_reach_more.ensures.least; one = c.one_reach.ensures; images = c.reach_is_kept.ensures.images } in
    number_is_reach c.laws.ensures reaching tables k below children i p number ok is near

pub returns-clause-far : goal.returns-clause-far
returns-clause-far c tables k below children far =
    let reaching : Reaching = record { more = c.more_plies_reach_more.ensures.more; least = c.more_plies_reach_more.ensures.least; one = c.one_reach.ensures; images = c.reach_is_kept.ensures.images } in
    far_away c.laws.ensures reaching tables k below children far
