use Rattle.egt_graph.proofs.Due.{entries_are_as_far, entries_are_nears, entry_is_number}
use Rattle.egt_graph.proofs.laws.numbers_that_are_due_are_the_nearest.Goals as goal

pub returns : goal.returns
returns c = record {
  numbers = entry_is_number;
  nears = entries_are_nears;
  far = entries_are_as_far;
}
