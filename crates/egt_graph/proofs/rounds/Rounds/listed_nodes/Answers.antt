use Rattle.std.proofs.Common.{ap, ◌∙◌}
use Rattle.egt_graph.specs.Prelude.{IfOk-weaker, entry_front, front-ascends}
use Rattle.egt_graph.proofs.Blocks.{front_nodes}
use Rattle.egt_graph.proofs.Running.{running_front, running_listed}
use Rattle.egt_graph.proofs.rounds.Rounds.listed_nodes.Goals as goal

pub returns-in-Running-clause-listed : goal.returns-in-Running-clause-listed
returns-in-Running-clause-listed g c =
    rw (← c.self.view_is) (IfOk-weaker c.block_nodes.result _ _
    (λ nodes is. is ∙ ap (λ es. entry_front es c.self.inside.round c.args.block) c.deref.ensures.value
    ∙ running_listed (g.G.Game.graph c.self.inside.game.now) (g.met.G.Game.lawful c.self.inside.game.now) _ _ _ _ _ _ _ c.self.invariant c.in-Running.is c.args.block)
    c.block_nodes.ensures)

pub returns-in-Running-clause-nodes : goal.returns-in-Running-clause-nodes
returns-in-Running-clause-nodes g c =
    rw (← c.self.view_is) (IfOk-weaker c.block_nodes.result _ _
    (λ nodes is.
    let e = is ∙ ap (λ es. entry_front es c.self.inside.round c.args.block) c.deref.ensures.value
    ∙ running_front (g.G.Game.graph c.self.inside.game.now) (g.met.G.Game.lawful c.self.inside.game.now) _ _ _ _ _ _ _ c.self.invariant c.in-Running.is c.args.block in
    rw e (front_nodes (g.G.Game.graph c.self.inside.game.now) c.self.inside.round c.args.block))
    c.block_nodes.ensures)

pub returns-in-Running-clause-ascending : goal.returns-in-Running-clause-ascending
returns-in-Running-clause-ascending g c =
    IfOk-weaker c.block_nodes.result _ _
    (λ nodes is.
    let e = is ∙ ap (λ es. entry_front es c.self.inside.round c.args.block) c.deref.ensures.value
    ∙ running_front (g.G.Game.graph c.self.inside.game.now) (g.met.G.Game.lawful c.self.inside.game.now) _ _ _ _ _ _ _ c.self.invariant c.in-Running.is c.args.block in
    rw e (front-ascends (g.G.Game.graph c.self.inside.game.now) c.self.inside.round c.args.block))
    c.block_nodes.ensures
