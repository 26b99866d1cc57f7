use Rattle.egt_sweep.proofs.MateRanks.{rank_is_value, above_limit}
use Rattle.egt_sweep.proofs.ranks.mate_ranks_are_values.Goals as goal

pub returns-clause-values : goal.returns-clause-values
returns-clause-values c tables k i p v below children ok is rank = rank_is_value c.laws.ensures c.plies.ensures tables k below children i p v ok is rank

pub returns-clause-above : goal.returns-clause-above
returns-clause-above c tables k limit below children above = above_limit c.laws.ensures c.plies.ensures tables k below children limit above
