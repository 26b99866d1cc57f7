use Rattle.std.proofs.Common.{arith}
use Rattle.egt_moves.proofs.ListGrows.{Lists-none, Lists-more, Lists-all, Lists-before, Lists-room, Added-all}
use Rattle.egt_moves.proofs.listing.push_moves.Goals as goal

pub loop-to-init : goal.loop-to-init
loop-to-init c =
    Lists-none c.args.position.now c.args.man c.args.from c.args.moves.now.items c.legal_goals-left.result c.requires.stands c.requires.ordered c.requires.before c.requires.mine c.legal_goals-left.ensures.safe c.legal_goals-left.ensures.few

pub push_choices-requires-clause-before : goal.push_choices-requires-clause-before
push_choices-requires-clause-before c =
    Lists-before c.args.position.now c.args.man c.args.from c.in-Some.to c.args.moves.now.items c.loop-to.moves.items c.loop-to.left c.in-Some.ensures.had c.loop-to.invariant

pub push_choices-requires-clause-room : goal.push_choices-requires-clause-room
push_choices-requires-clause-room c =
    Lists-room c.args.position.now c.args.man c.args.from c.args.moves.now.items c.loop-to.moves.items c.loop-to.left c.pop_first.new.self c.in-Some.ensures.size c.requires.room c.loop-to.invariant

pub loop-to-preserved : goal.loop-to-preserved
loop-to-preserved c =
    let safe = c.loop-to.invariant.safe c.in-Some.to c.in-Some.ensures.had in
    Lists-more c.args.position.now c.args.man c.args.from c.in-Some.to c.args.moves.now.items c.loop-to.moves.items _ c.loop-to.left c.pop_first.new.self
    c.requires.stands (omega arith) c.in-Some.ensures.had c.in-Some.ensures.least c.in-Some.ensures.gone c.in-Some.ensures.others c.in-Some.ensures.size
    (Added-all c.args.position.now c.args.man c.args.from c.in-Some.to c.loop-to.moves.items _ c.requires.stands c.requires.mine safe.0 safe.1
    c.push_choices.ensures.choices c.push_choices.ensures.ordered c.push_choices.ensures.few)
    c.loop-to.invariant

pub returns-clause-legal : goal.returns-clause-legal
returns-clause-legal c = Lists-all c.args.position.now c.args.man c.args.from c.args.moves.now.items c.loop-to.moves.items c.loop-to.left c.loop-to.invariant c.in_default.ensures.empty
