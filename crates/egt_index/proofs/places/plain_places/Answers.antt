use Rattle.std.proofs.Common.{arith}
use Rattle.egt_index.specs.Prelude.{White, Black}
use Rattle.egt_index.proofs.Placing.{made_bits}
use Rattle.egt_index.proofs.places.plain_places.Goals as goal

pub returns : goal.returns
returns c =
    let before = c.requires in
    record {
      white = made_bits c.args.class before.high c.args.man (omega (arith, c.number-number.ensures.below, c.number-number.ensures.value)) before.last before.other c.args.prefix.now before.is White c.places_of.result c.places_of.ensures.on_board c.places_of.ensures.bits;
      black = made_bits c.args.class before.high c.args.man (omega (arith, c.number-number.ensures.below, c.number-number.ensures.value)) before.last before.other c.args.prefix.now before.is Black c.places_of-2.result c.places_of-2.ensures.on_board c.places_of-2.ensures.bits;
    }
