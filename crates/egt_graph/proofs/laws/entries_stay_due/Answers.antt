use Rattle.egt_graph.specs.Due.{nears, values}
use Rattle.egt_graph.proofs.Due.{due_stays}
use Rattle.egt_graph.proofs.laws.entries_stay_due.Goals as goal

pub returns : goal.returns
returns c = record { values = due_stays values; numbers = due_stays nears }
