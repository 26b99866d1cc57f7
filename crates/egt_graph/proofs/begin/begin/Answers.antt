use Rattle.std.proofs.Common.{ℕ, subst, arith}
use Rattle.egt_graph.specs.Prelude.{IsBegun}
use Rattle.egt_graph.proofs.begin.begin.Goals as goal

pub returns : goal.returns
returns g c =
    let P : ℕ → Type 0 = λ n. IsBegun (g.G.Game.graph c.args.game.now) n c.loop-node.columns.entries.items c.loop-node.columns.waits.items
    c.loop-node.columns.later.items c.loop-node.columns.lost.items c.loop-node.columns.lost_due c.loop-node.columns.won_due in
    subst P (omega (arith, c.size-size.ensures)) c.loop-node.invariant
