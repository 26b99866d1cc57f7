use Rattle.egt_probe.proofs.OneReport.{as_long}
use Rattle.egt_probe.proofs.laws.a_line_has_a_move_a_ply.Goals as goal

pub returns : goal.returns
returns c = as_long
