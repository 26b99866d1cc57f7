use Rattle.std.specs.Prelude.{◌≡◌, false, take}
use Rattle.egt_graph.specs.Prelude.{list_any, is_loss}
use Rattle.egt_graph.proofs.begin.any_loss.Given as goal

abbrev pub invariant-loop-exit : goal.invariant-loop-exit
invariant-loop-exit l = list_any is_loss (take l.exit-index l.exits) ≡ false
