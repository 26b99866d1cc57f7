use Rattle.egt_graph.specs.Near.{AreFound}
use Rattle.egt_graph.proofs.nearing.found_in.Given as goal

abbrev pub invariant-loop-i : goal.invariant-loop-i
invariant-loop-i l = AreFound l.entries l.round l.i l.found.items
