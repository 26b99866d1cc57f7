use Rattle.egt_index.proofs.Placing.{placed_bits}
use Rattle.egt_index.proofs.places.places_of.Goals as goal

pub returns-clause-bits : goal.returns-clause-bits
returns-clause-bits c = λ k.
    placed_bits c.args.prefix.now c.args.man c.args.mover c.waiting-king.result k c.digits_on.result c.kept_from-kept.result.bits c.occupied-occupied.result.bits c.difference.result.bits
    c.waiting-king.ensures (c.digits_on.ensures k) c.difference.ensures.squares c.kept_from-kept.ensures c.occupied-occupied.ensures.free
