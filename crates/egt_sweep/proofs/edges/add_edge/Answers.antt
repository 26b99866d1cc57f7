use Rattle.std.proofs.Common.{subst}
use Rattle.egt_sweep.specs.Prelude.{IsIndex}
use Rattle.egt_sweep.proofs.Collecting.{leads_on_once, leads_on_never, members_on, members_off, untrue}
use Rattle.egt_sweep.proofs.edges.add_edge.Goals as goal

pub returns-then-goes_on-clause-members : goal.returns-then-goes_on-clause-members
returns-then-goes_on-clause-members c k =
    let (q, leads) = c.requires.legal in
    let place = c.place_after-place.result in
    let there = c.place_after-place.ensures q leads in
    let same = c.goes_on.ensures.class q there.flipped leads there.of c.if-goes_on.true in
    members_on (c.put.ensures.members k)
    (leads_on_once c.laws.ensures c.args.metric c.args.class c.args.position.now c.args.chess_move.now q place.index k c.side-side.ensures.admissible leads ((c.goes_on.ensures.on q there.flipped leads there.of).0 c.if-goes_on.true)
    (subst (λ d. IsIndex d q place.index) same there.is_index))

pub returns-else-goes_on-clause-members : goal.returns-else-goes_on-clause-members
returns-else-goes_on-clause-members c k =
    let (q, leads) = c.requires.legal in
    let there = c.place_after-place.ensures q leads in
    members_off (leads_on_never c.laws.ensures c.args.metric c.args.class c.args.position.now c.args.chess_move.now q k leads (untrue c.goes_on.result c.if-goes_on.false (c.goes_on.ensures.on q there.flipped leads there.of)))
