use Rattle.egt_blocks.specs.Prelude.{AdvancesBy, at, IsBesideWhere, IsClear, RowsRaised}
use Rattle.egt_blocks.proofs.advance_blocks.raise_leaps.Given as goal

abbrev pub invariant-loop-a : goal.invariant-loop-a
invariant-loop-a l = RowsRaised (λ a b t. AdvancesBy 2 (IsClear l.men a) l.side b t × IsBesideWhere l.beside a t) (λ a b t. at l.scores a t) l.initial.out l.out l.a
