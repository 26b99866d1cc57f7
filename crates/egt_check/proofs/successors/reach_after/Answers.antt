use Rattle.egt_check.specs.Prelude.{HasReachAt, table_at, beside}
use Rattle.egt_check.proofs.TableFound.{after_step, child_reach, own_reach, place_below}
use Rattle.egt_check.proofs.successors.reach_after.Goals as goal

pub reach_in-requires-clause-there : goal.reach_in-requires-clause-there
reach_in-requires-clause-there c =
    let t = c.args.table.now in
    let tables = table_at c.args.library.now in
    let (q, leads) = c.requires.legal in
    after_step c.facts.ensures (HasReachAt (beside tables t)) t.class c.args.position.now q c.args.chess_move.now c.class-class.ensures.table.class_in c.side-side.ensures.admissible c.requires.own leads
    (own_reach tables t c.requires.there) (λ d child. child_reach tables t c.requires.children c.requires.reach_children d child c.requires.there) c.place_after.result (c.place_after.ensures q leads)

pub reach_in-requires-clause-below : goal.reach_in-requires-clause-below
reach_in-requires-clause-below c =
    let (q, leads) = c.requires.legal in
    place_below c.facts.ensures q c.place_after.result (c.place_after.ensures q leads)

pub returns : goal.returns
returns c = λ q leads. c.reach_in.ensures q (c.place_after.ensures q leads)
