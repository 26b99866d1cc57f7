use Rattle.egt_index.proofs.MenPlaced.{kings_by, stood_by}
use Rattle.egt_index.proofs.stand.stand_by.Goals as goal

pub returns : goal.returns
returns c p ok is_of all =
    rw (c.placed.ensures, c.placed-2.ensures, c.either.ensures, c.either-2.ensures, c.either-3.ensures, c.either-4.ensures)
    (stood_by c.args.class c.args.flipped p _ _ c.non_kings-first.result.0 c.non_kings-first.result.1 c.args.one.now c.args.other.now c.is_first-in_order.result c.square_of-one.result c.square_of-other.result
    ok is_of c.non_kings-first.ensures.men c.non_kings-first.ensures.from_first (kings_by c.args.flipped p c.args.white c.args.black ok all.white_there all.black_there) all.beside
    c.is_first-in_order.ensures c.square_of-one.ensures c.square_of-other.ensures)
