use Rattle.egt_graph.proofs.Due.{entries_are_as_deep, entries_are_ranks, entry_is_value}
use Rattle.egt_graph.proofs.laws.entries_that_are_due_are_the_ranks.Goals as goal

pub returns : goal.returns
returns c = record {
  values = entry_is_value;
  ranks = entries_are_ranks;
  deep = entries_are_as_deep;
}
