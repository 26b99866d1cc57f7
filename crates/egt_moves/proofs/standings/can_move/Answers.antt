use Rattle.egt_moves.proofs.Sticking.{LeavesSet-none, LeavesSet-less, LeavesSet-all, can_go}
use Rattle.egt_moves.proofs.standings.can_move.Goals as goal

pub loop-from-init : goal.loop-from-init
loop-from-init c = LeavesSet-none c.args.position.now c.of-rest.result.bits (rw (← c.side.ensures.side) c.of-rest.ensures.held)

pub loop-from-preserved : goal.loop-from-preserved
loop-from-preserved c =
    LeavesSet-less c.args.position.now c.loop-from.rest.bits _ c.in-Some.from c.legal_targets-targets.result.bits c.in-Some.ensures.others c.legal_targets-targets.ensures.legal c.in_default-pop_first.ensures.empty c.loop-from.invariant

pub returns-in-Some-pop_first : goal.returns-in-Some-pop_first
returns-in-Some-pop_first c = can_go c.args.position.now c.in-Some.from c.in-Some-pop_first._to ((c.legal_targets-targets.ensures.legal c.in-Some-pop_first._to).0 c.in-Some-pop_first.ensures.had)

pub returns : goal.returns
returns c = LeavesSet-all c.args.position.now c.loop-from.rest.bits c.loop-from.invariant c.in_default.ensures.empty
