use Rattle.egt_sweep.proofs.Collecting.{untrue}
use Rattle.egt_sweep.proofs.NodeTests.{mated_told, not_mated_told, no_mate}
use Rattle.egt_sweep.proofs.nodes.is_mated.Goals as goal

pub returns-then-not-is_in_check : goal.returns-then-not-is_in_check
returns-then-not-is_in_check c = not_mated_told c.laws.ensures c.args.class c.args.index c.node-position.result c.node-position.ensures
    (λ mate. untrue c.is_in_check.result c.if-not-is_in_check.true (rw (c.board.ensures, c.side-side.ensures.side) at c.is_in_check.ensures) mate.check)

pub returns-in-Checkmate : goal.returns-in-Checkmate
returns-in-Checkmate c = mated_told c.laws.ensures c.args.class c.args.index c.node-position.result c.node-position.ensures c.in-Checkmate.ensures

pub returns-in-Stalemate : goal.returns-in-Stalemate
returns-in-Stalemate c = not_mated_told c.laws.ensures c.args.class c.args.index c.node-position.result c.node-position.ensures (no_mate c.node-position.result c.standing.result c.standing.ensures c.in-Stalemate.is)
