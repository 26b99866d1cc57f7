use Rattle.std.proofs.Common.{◌≡◌, ◌<◌, ◌^◌, false, replicate, arith}
use Rattle.egt_graph.specs.Prelude.{common_steps, blocks_of}
use Rattle.egt_graph.proofs.Beginning.{begun_run}
use Rattle.egt_graph.proofs.rounds.Rounds.new.Goals as goal

pub invariant_of-result : goal.invariant_of-result
invariant_of-result g c =
    let small : (g.G.Game.graph c.args.game.now).size < 2 ^ 32 = omega (arith, c.size.ensures) in
    let flags : c.in_ok-posted.posted.items ≡ replicate (blocks_of (g.G.Game.graph c.args.game.now).size) false = grind (arith, common_steps) in
    begun_run (g.G.Game.graph c.args.game.now) c.args.limit _ _ _ _ _ _ _ c.in_ok-entries.ensures small c.requires flags
