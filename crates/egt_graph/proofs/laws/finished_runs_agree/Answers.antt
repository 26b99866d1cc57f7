use Rattle.egt_graph.proofs.Histories.{finished_runs_agree}
use Rattle.egt_graph.proofs.laws.finished_runs_agree.Goals as goal

pub returns : goal.returns
returns c = finished_runs_agree
