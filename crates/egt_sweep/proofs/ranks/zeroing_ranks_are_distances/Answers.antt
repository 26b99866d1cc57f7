use Rattle.std.specs.Prelude.{refl}
use Rattle.egt_sweep.specs.Prelude.{beside}
use Rattle.egt_sweep.proofs.OutOfClass.{beside_own}
use Rattle.egt_sweep.proofs.Shown.{beside_values}
use Rattle.egt_sweep.proofs.ZeroRanks.{rank_is_distance, rank_in_time}
use Rattle.egt_sweep.proofs.ranks.zeroing_ranks_are_distances.Goals as goal

pub returns-clause-distances : goal.returns-clause-distances
returns-clause-distances c tables t i p v below children values ok is rank =
    rank_is_distance c.laws.ensures c.plies.ensures (beside tables t) t.class below (beside_values c.laws.ensures tables t below children) t (beside_own tables t) refl values i p v ok is rank

pub returns-clause-in_time : goal.returns-clause-in_time
returns-clause-in_time c tables t n limit i p v below children values ok is has within told =
    rank_in_time c.laws.ensures c.plies.ensures (beside tables t) t.class below (beside_values c.laws.ensures tables t below children) t (beside_own tables t) refl values n limit i p v ok is has within told
