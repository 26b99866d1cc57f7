use Rattle.std.proofs.Common.{arith}
use Rattle.egt_index.proofs.Numbered.{indexes_behind}
use Rattle.egt_index.proofs.places.places_behind.Goals as goal

pub returns : goal.returns
returns c = λ shelf high prefix at.
    indexes_behind c.args.targeted c.args.class shelf high c.args.man (omega (arith, c.number-number.ensures.below, c.number-number.ensures.value)) c.requires.before.last c.requires.before.other at c.args.prefix.now prefix c.facts.ensures c.if-prefix.false
    c.settled_places-all.result c.in_order.result c.settled_places-all.ensures c.in_order.ensures
