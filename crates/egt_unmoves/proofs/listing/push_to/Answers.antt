use Rattle.std.proofs.Common.{arith}
use Rattle.egt_unmoves.proofs.Pushing.{ListsTo-none, ListsTo-before, ListsTo-more, ListsTo-all}
use Rattle.egt_unmoves.proofs.Went.{left_square}
use Rattle.egt_unmoves.proofs.listing.push_to.Goals as goal

pub push_from-requires-clause-source : goal.push_from-requires-clause-source
push_from-requires-clause-source c = c.sources-rest.ensures.sound c.in-Some.from (omega arith) ((c.loop-from.invariant.left_is c.in-Some.from).0 c.in-Some.ensures.had).0

pub push_from-requires-clause-listed : goal.push_from-requires-clause-listed
push_from-requires-clause-listed c =
    ListsTo-before c.args.position.now c.args.man c.args.to c.sources-rest.result (λ b m same comes. c.sources-rest.ensures.complete m.from (left_square c.args.position.now c.args.man c.args.to c.requires.stands b m same comes)) c.args.list.now.items c.loop-from.list.items c.loop-from.rest c.in-Some.from
    (omega arith) c.in-Some.ensures.had c.in-Some.ensures.least c.loop-from.invariant

pub loop-from-preserved : goal.loop-from-preserved
loop-from-preserved c =
    ListsTo-more c.args.position.now c.args.man c.args.to c.sources-rest.result (λ b m same comes. c.sources-rest.ensures.complete m.from (left_square c.args.position.now c.args.man c.args.to c.requires.stands b m same comes)) c.args.list.now.items c.loop-from.list.items _ c.loop-from.rest c.pop_first.new.self
    c.in-Some.from (omega arith) c.in-Some.ensures.had c.in-Some.ensures.least c.in-Some.ensures.gone c.in-Some.ensures.others c.in-Some.ensures.size c.push_from.ensures.listed c.push_from.ensures.few
    c.loop-from.invariant

pub returns-clause-listed : goal.returns-clause-listed
returns-clause-listed c =
    ListsTo-all c.args.position.now c.args.man c.args.to c.sources-rest.result (λ b m same comes. c.sources-rest.ensures.complete m.from (left_square c.args.position.now c.args.man c.args.to c.requires.stands b m same comes)) c.args.list.now.items c.loop-from.list.items c.loop-from.rest c.loop-from.invariant
    c.in_default.ensures.empty

pub loop-from-init : goal.loop-from-init
loop-from-init c = ListsTo-none c.args.position.now c.args.man c.args.to c.sources-rest.result c.args.list.now.items c.requires.listed c.sources-rest.ensures.few
