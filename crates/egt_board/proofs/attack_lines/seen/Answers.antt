use Rattle.egt_board.proofs.Hiding.{Sees-none, Sees-more, Sees-all}
use Rattle.egt_board.proofs.attack_lines.seen.Goals as goal

pub loop-blocker-init : goal.loop-blocker-init
loop-blocker-init c = Sees-none c.args.from c.args.squares.bits c.args.occupied.bits c.intersection-blockers.result.bits c.intersection-blockers.ensures.squares

pub loop-blocker-preserved : goal.loop-blocker-preserved
loop-blocker-preserved c =
    Sees-more c.args.from c.args.squares.bits c.args.occupied.bits c.loop-blocker.left.bits _ c.loop-blocker.blockers.bits _ c.behind.result.bits c.in-Some.blocker
    c.in-Some.ensures.had c.in-Some.ensures.gone c.in-Some.ensures.others c.behind.ensures c.difference-left.ensures.squares c.loop-blocker.invariant

pub returns : goal.returns
returns c = Sees-all c.args.from c.args.squares.bits c.args.occupied.bits c.loop-blocker.left.bits c.loop-blocker.blockers.bits c.loop-blocker.invariant c.in_default.ensures.empty
