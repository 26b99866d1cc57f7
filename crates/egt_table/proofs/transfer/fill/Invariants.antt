use Rattle.std.specs.Prelude.{length, ℕ, ◌<◌, get_or, ◌-◌, ◌≡◌, ◌≤◌, take}
use Rattle.egt_table.specs.Prelude.{Consumes}
use Rattle.egt_table.proofs.transfer.fill.Given as goal

abbrev pub invariant-loop-got : goal.invariant-loop-got
invariant-loop-got g l = record {
  bound : l.got ≤ length l.buffer;
  range : (i : ℕ) → get_or l.buffer i 0 < 256;
  bytes : Consumes (g.S.Source.left l.initial.source) (g.S.Source.left l.source) (take l.got l.buffer);
  failures : g.S.Source.failures l.source ≡ g.S.Source.failures l.initial.source;
}

abbrev pub decreases-loop-got : goal.decreases-loop-got
decreases-loop-got g l = length l.initial.buffer - l.got
