use Rattle.std.proofs.Common.{◌+◌, Some, arith}
use Rattle.egt_index.specs.Prelude.{kind_less, IsInOrder}
use Rattle.egt_index.proofs.Placing.{bits_among}
use Rattle.egt_index.proofs.places.in_order.Goals as goal

pub returns : goal.returns
returns c = record {
  white = λ k. bits_among c.args.all.white c.digits_in_order-digits.result k (IsInOrder c.args.first.now (Some (c.args.man, k + kind_less c.args.man.kind))) (omega arith) (c.digits_in_order-digits.ensures k);
  black = λ k. bits_among c.args.all.black c.digits_in_order-digits.result k (IsInOrder c.args.first.now (Some (c.args.man, k + kind_less c.args.man.kind))) (omega arith) (c.digits_in_order-digits.ensures k);
}
