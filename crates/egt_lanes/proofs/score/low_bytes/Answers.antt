use Rattle.std.proofs.Common.{replicate, bit_and, arith}
use lib.Lanes.{zip2}
use Rattle.egt_lanes.proofs.Rows.{low_at, low_fits}
use Rattle.egt_lanes.proofs.score.low_bytes.Goals as goal

pub overflow_cast-result : goal.overflow_cast-result
overflow_cast-result c = low_fits c.args.entries 64

pub returns : goal.returns
returns c s s_in = grind (arith, zip2, bit_and, replicate, low_at)
