use Rattle.std.specs.Prelude.{◌≡◌}
use Rattle.egt_blocks.specs.Prelude.{bit_at, AdvancesBy, at, IsClear, RowsRaised}
use Rattle.egt_blocks.proofs.advance_blocks.raise_steps.Given as goal

abbrev pub invariant-loop-a : goal.invariant-loop-a
invariant-loop-a l = RowsRaised (λ a b t. AdvancesBy 1 (IsClear l.men a) l.side b t × (bit_at l.arrivals.bits t ≡ 1)) (λ a b t. at l.scores a t) l.initial.out l.out l.a
