use Rattle.egt_probe.proofs.BestMoves.{best_begins, best_holds}
use Rattle.egt_probe.proofs.laws.the_best_move_begins_the_line.Goals as goal

pub returns : goal.returns
returns c = record { line = best_begins c.facts.ensures; hold = best_holds c.facts.ensures }
