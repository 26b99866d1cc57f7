use Rattle.egt_lanes.specs.Prelude.{OneOf, knight_steps, Away, at}
use Rattle.egt_lanes.proofs.Rowwise.{RowsRaised}
use Rattle.egt_lanes.proofs.walk.raise_hops.Given as goal

abbrev pub invariant-loop-a : goal.invariant-loop-a
invariant-loop-a l = RowsRaised (λ a b t. OneOf (λ d. Away d 1 a t) knight_steps) (λ a b t. at l.rows t b) l.initial.out l.out l.a
