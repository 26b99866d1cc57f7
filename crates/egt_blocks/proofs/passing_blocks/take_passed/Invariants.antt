use Rattle.egt_blocks.specs.PassedRows.{IsAtPassed}
use Rattle.egt_blocks.proofs.PassingRaising.{RowsAre}
use Rattle.egt_blocks.proofs.passing_blocks.take_passed.Given as goal

abbrev pub invariant-loop-a : goal.invariant-loop-a
invariant-loop-a l = RowsAre (IsAtPassed l.side l.arrived) l.out l.a
