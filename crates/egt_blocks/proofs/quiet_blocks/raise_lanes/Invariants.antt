use Rattle.egt_blocks.specs.Prelude.{Reaches, at, IsClear, RowsRaised}
use Rattle.egt_blocks.proofs.quiet_blocks.raise_lanes.Given as goal

abbrev pub invariant-loop-a : goal.invariant-loop-a
invariant-loop-a l = RowsRaised (λ a b t. Reaches (IsClear l.men a) l.men.last b t) (λ a b t. at l.scores a t) l.initial.out l.out l.a
