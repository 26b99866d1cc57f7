use Rattle.std.proofs.Common.{◌↔◌, arith, sym, ◌∙◌, subst, ap}
use Rattle.egt_unmoves.specs.Prelude.{other_side, IsOccupiedBy, Has}
use Rattle.egt_unmoves.proofs.Men.{ListsMen-none, ListsMen-room, ListsMen-before, ListsMen-more, ListsMen-all}
use Rattle.egt_unmoves.proofs.UnmoveList.{ListsBelow-all}
use Rattle.egt_unmoves.proofs.listing.unmoves.Goals as goal

pub loop-to-init : goal.loop-to-init
loop-to-init c =
    rw c.new-list.ensures
    (ListsMen-none c.args.position.now c.of-rest.result
    (λ t. subst (λ side. Has c.of-rest.result t ↔ IsOccupiedBy c.args.position.now.men t side) (c.other-waiting.ensures ∙ ap other_side c.side.ensures.side) (c.of-rest.ensures.held t)) c.of-rest.ensures.few)

pub push_to-requires-clause-room : goal.push_to-requires-clause-room
push_to-requires-clause-room c =
    ListsMen-room c.args.position.now c.loop-to.list.items c.loop-to.rest c.pop_first.new.self c.in-Some.to c.unwrap-man.result c.side.ensures.admissible c.in-Some.ensures.had c.in-Some.ensures.gone
    c.in-Some.ensures.others c.in-Some.ensures.size (sym c.at.ensures ∙ c.unwrap-man.ensures) c.loop-to.invariant

pub push_to-requires-clause-listed : goal.push_to-requires-clause-listed
push_to-requires-clause-listed c =
    ListsMen-before c.args.position.now c.loop-to.list.items c.loop-to.rest c.in-Some.to (omega arith) c.in-Some.ensures.had c.in-Some.ensures.least c.loop-to.invariant

pub loop-to-preserved : goal.loop-to-preserved
loop-to-preserved c =
    ListsMen-more c.args.position.now c.loop-to.list.items c.push_to.new.list.items c.loop-to.rest c.pop_first.new.self c.in-Some.to c.unwrap-man.result c.side.ensures.admissible (omega arith)
    c.in-Some.ensures.had c.in-Some.ensures.least c.in-Some.ensures.gone c.in-Some.ensures.others c.in-Some.ensures.size (sym c.at.ensures ∙ c.unwrap-man.ensures)
    c.push_to.ensures.listed c.push_to.ensures.few c.loop-to.invariant

pub returns-clause-exact : goal.returns-clause-exact
returns-clause-exact c =
    ListsBelow-all c.args.position.now c.loop-to.list.items (ListsMen-all c.args.position.now c.loop-to.list.items c.loop-to.rest c.loop-to.invariant c.in_default.ensures.empty)
