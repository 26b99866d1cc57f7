use Rattle.egt_lanes.proofs.Rows.{all_alike, some_apart}
use Rattle.egt_lanes.proofs.row.differ.Goals as goal

pub returns-clause-alike : goal.returns-clause-alike
returns-clause-alike c = all_alike c.args.a c.args.b c.args.within c.fits-a.0 c.fits-b.0 c.fits-within.0

pub returns-clause-apart : goal.returns-clause-apart
returns-clause-apart c = some_apart c.args.a c.args.b c.args.within c.fits-a.0 c.fits-b.0 c.fits-within.0
