use Rattle.std.proofs.Common.{eqb, ap₂, arith}
use Rattle.egt_graph.proofs.ListsAdded.{pushed_at}
use Rattle.egt_graph.proofs.schedule.Schedule.add.Goals as goal

pub returns : goal.returns
returns c = grind (arith, pushed_at, ap₂, eqb, c.in_ok-grow.ensures.long, c.in_ok-grow.ensures.same, c.index_mut.ensures.value, c.in_ok-push.ensures.items, c.from-round.ensures)
