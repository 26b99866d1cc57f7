use Rattle.egt_sweep.specs.FillPrelude.{IsMendedAt}
use Rattle.egt_sweep.proofs.lone_rounds.mend_lone_rows.Given as goal

abbrev pub invariant-loop-round : goal.invariant-loop-round
invariant-loop-round l = IsMendedAt l.f.part (λ i. Unit {0}) l.fn.table l.table
