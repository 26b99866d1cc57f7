use Rattle.std.proofs.Common.{arith}
use Rattle.egt_graph.proofs.Nearby.{nears_told, nears_at_last, far_found}
use Rattle.egt_graph.proofs.near_solver.nearest.Goals as goal

pub returns-then-is_over-clause-ok : goal.returns-then-is_over-clause-ok
returns-then-is_over-clause-ok g c =
    nears_told (g.G.Game.graph c.args.game.now) (g.met.G.Game.lawful c.args.game.now) c.loop-round.round _ c.in_ok-step_back.ensures
    (c.is_over.ensures c.if-is_over.true) (omega (arith, c.loop-round-test.true)) c.nears_of.result c.nears_of.ensures

pub step_back-requires-2-clause-known : goal.step_back-requires-2-clause-known
step_back-requires-2-clause-known g c = grind (arith, c.loop-round-test.false, c.loop-round.invariant)

pub returns-then-any_found-clause-too_deep : goal.returns-then-any_found-clause-too_deep
returns-then-any_found-clause-too_deep g c =
    λ _. far_found (g.G.Game.graph c.args.game.now) c.step_back-2.new.run c.in_ok-step_back-2.ensures c.if-any_found.ensures.0
    (rw c.deref.ensures.value at c.if-any_found.ensures.2)

pub returns-clause-ok : goal.returns-clause-ok
returns-clause-ok g c =
    nears_at_last (g.G.Game.graph c.args.game.now) (g.met.G.Game.lawful c.args.game.now) c.step_back-2.new.run c.in_ok-step_back-2.ensures (rw c.deref.ensures.value at c.if-any_found.ensures)
    c.nears_of-2.result c.nears_of-2.ensures
