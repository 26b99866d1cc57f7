use Rattle.std.proofs.Common.{arith, refl, subst, slice_index}
use Rattle.egt_blocks.specs.Prelude.{set, other_side, ShelfMen, left_of, stand_left, IsRead}
use Rattle.egt_blocks.proofs.LastTaken.{RowsTaken, taken_all, taken_more, taken_none}
use Rattle.egt_blocks.proofs.taken_blocks.read_king_takes.Goals as goal

pub loop-to-init : goal.loop-to-init
loop-to-init g c =
    taken_none (g.S.LoneScores.number c.args.source.now) (g.S.LoneScores.worth c.args.source.now c.args.column) c.args.flips c.args.men.now c.args.side c.beside_king-rest.result c.nothing.result (omega (arith, c.nothing.type_inv)) c.nothing.ensures c.beside_king-rest.ensures

pub loop-to-preserved : goal.loop-to-preserved
loop-to-preserved g c =
    let number = g.S.LoneScores.number c.args.source.now in
    let worth = g.S.LoneScores.worth c.args.source.now c.args.column in
    let men = c.args.men.now in
    let side = c.args.side in
    let to = c.in-Some.to in
    let row = c.read_left.new.out in
    let more =
    taken_more number worth c.args.flips men side c.loop-to.rest c.pop_first.new.self c.loop-to.out to row (omega arith) c.in-Some.ensures.had c.in-Some.ensures.gone c.in-Some.ensures.others
    (λ a a_in. subst (λ (m : ShelfMen). IsRead number worth c.args.flips (stand_left c.args.flips (left_of m m.first a)) (other_side side) (slice_index row a)) c.with_king-stepped.ensures (c.if-not-read_left.ensures refl a a_in))
    c.loop-to.invariant in
    subst (λ k. RowsTaken number worth c.args.flips men side c.pop_first.new.self (set c.loop-to.out k row)) (omega (arith, c.number.ensures.value, c.from.ensures)) more

pub returns : goal.returns
returns g c = λ told. taken_all (g.S.LoneScores.number c.args.source.now) (g.S.LoneScores.worth c.args.source.now c.args.column) c.args.flips c.args.men.now c.args.side c.loop-to.rest c.loop-to.out c.loop-to.invariant c.in_default.ensures.empty
