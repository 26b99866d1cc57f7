use Rattle.std.specs.Prelude.{slice_index}
use Rattle.egt_blocks.specs.Prelude.{RowsRaised}
use Rattle.egt_blocks.proofs.LastTaken.{IsTake}
use Rattle.egt_blocks.proofs.taken_blocks.raise_takes.Given as goal

abbrev pub invariant-loop-a : goal.invariant-loop-a
invariant-loop-a l = RowsRaised (IsTake l.men) (λ a b t. slice_index l.scores t) l.initial.out l.out l.a
