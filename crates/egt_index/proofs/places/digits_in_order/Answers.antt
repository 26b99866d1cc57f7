use Rattle.std.proofs.Common.{◌+◌, arith}
use Rattle.egt_index.specs.Prelude.{common_steps, kind_less}
use Rattle.egt_index.proofs.Placing.{free_bits, ordered_bits}
use Rattle.egt_index.proofs.places.digits_in_order.Goals as goal

pub returns-then-eq : goal.returns-then-eq
returns-then-eq c = λ k k_in.
    ordered_bits c.args.first.now (c.in-Some.other, c.in-Some.square) c.args.man c.digit.result k c.in-Some.is (grind (arith, common_steps)) c.digit.ensures.value c.digit.ensures.few k_in

pub returns-else-eq : goal.returns-else-eq
returns-else-eq c = λ k k_in. free_bits c.args.first.now c.args.man k (k + kind_less c.args.man.kind) (grind (arith, common_steps)) k_in

pub returns-in-None : goal.returns-in-None
returns-in-None c = λ k k_in. free_bits c.args.first.now c.args.man k (k + kind_less c.args.man.kind) (grind (arith, common_steps)) k_in
