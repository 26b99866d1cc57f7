use Rattle.std.specs.Prelude.{◌≡◌, ◌+◌, length}
use Rattle.egt_class.specs.Prelude.{listed}
use Rattle.egt_class.proofs.descent.children.Given as goal

abbrev pub invariant-loop-at : goal.invariant-loop-at
invariant-loop-at l = record {
  items : l.children.items ≡ listed l.start l.at;
  room : length l.children.items + l.start ≡ l.at;
}
