use Rattle.std.proofs.Common.{arith}
use Rattle.egt_lanes.proofs.Rows.{greater_at}
use Rattle.egt_lanes.proofs.row.greater.Goals as goal

pub returns : goal.returns
returns c s s_in = greater_at c.args.a c.args.b s (omega (arith, c.fits-a.0)) (omega (arith, c.fits-b.0))
