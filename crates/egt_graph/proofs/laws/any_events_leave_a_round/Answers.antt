use Rattle.egt_graph.proofs.Histories.{events_leave}
use Rattle.egt_graph.proofs.laws.any_events_leave_a_round.Goals as goal

pub returns : goal.returns
returns c = events_leave
