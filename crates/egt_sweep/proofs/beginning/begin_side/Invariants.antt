use Rattle.std.specs.Prelude.{◌≡◌}
use Rattle.egt_sweep.specs.FillPrelude.{All, IsItem, Item}
use Rattle.egt_sweep.proofs.beginning.begin_side.Given as goal

abbrev pub invariant-loop-n : goal.invariant-loop-n
invariant-loop-n l = All (IsItem l.f l.table) l.items.items × All (λ (item : Item). item.looked ≡ 0) l.items.items
