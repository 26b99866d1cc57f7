use Rattle.egt_graph.proofs.Nearby.{found_more, found_past}
use Rattle.egt_graph.proofs.nearing.found_in.Goals as goal
use Rattle.egt_graph.proofs.nearing.found_in.Goals.{then-entries-i+in_ok-push, else-entries-i}

pub loop-i-preserved : goal.loop-i-preserved
loop-i-preserved c = elim c.if-entries-i.branch [
  | then-entries-i+in_ok-push w ↦ rw (w.found-is, w.in_ok-push.ensures.items)
      (found_more c.args.entries.now c.args.round c.loop-i.i c.loop-i.found.items c.loop-i.invariant w.if-entries-i.true)
  | else-entries-i w ↦ rw (w.found-is) (found_past c.args.entries.now c.args.round c.loop-i.i c.loop-i.found.items c.loop-i.invariant w.if-entries-i.false)
]
