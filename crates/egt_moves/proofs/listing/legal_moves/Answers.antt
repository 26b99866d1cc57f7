use Rattle.std.proofs.Common.{sym, ◌∙◌}
use Rattle.egt_moves.proofs.Walking.{Walks-room, Walks-before, Walks-more, Walks-all}
use Rattle.egt_moves.proofs.ListedMoves.{moves_of-is}
use Rattle.egt_moves.proofs.listing.legal_moves.Goals as goal

pub push_moves-requires-clause-room : goal.push_moves-requires-clause-room
push_moves-requires-clause-room c =
    Walks-room c.args.position.now c.loop-from.moves.items c.loop-from.rest c.pop_first.new.self c.in-Some.from c.unwrap-man.result c.side-side.ensures.admissible c.in-Some.ensures.had c.in-Some.ensures.gone
    c.in-Some.ensures.others c.in-Some.ensures.size (sym c.at.ensures ∙ c.unwrap-man.ensures) c.loop-from.invariant

pub push_moves-requires-clause-before : goal.push_moves-requires-clause-before
push_moves-requires-clause-before c =
    Walks-before c.args.position.now c.loop-from.moves.items c.loop-from.rest c.in-Some.from c.in-Some.ensures.had c.loop-from.invariant

pub loop-from-preserved : goal.loop-from-preserved
loop-from-preserved c =
    Walks-more c.args.position.now c.loop-from.moves.items c.push_moves.new.moves.items c.loop-from.rest c.pop_first.new.self c.in-Some.from c.unwrap-man.result c.side-side.ensures.admissible
    c.in-Some.ensures.had c.in-Some.ensures.least c.in-Some.ensures.gone c.in-Some.ensures.others c.in-Some.ensures.size (sym c.at.ensures ∙ c.unwrap-man.ensures)
    c.push_moves.ensures.ordered c.push_moves.ensures.legal c.push_moves.ensures.few c.loop-from.invariant

pub returns-clause-legal : goal.returns-clause-legal
returns-clause-legal c = Walks-all c.args.position.now c.loop-from.moves.items c.loop-from.rest c.loop-from.invariant c.in_default.ensures.empty

pub returns-clause-listed : goal.returns-clause-listed
returns-clause-listed c =
    moves_of-is c.args.position.now c.loop-from.moves.items c.side-side.ensures.admissible c.loop-from.invariant.ordered
    (Walks-all c.args.position.now c.loop-from.moves.items c.loop-from.rest c.loop-from.invariant c.in_default.ensures.empty)
