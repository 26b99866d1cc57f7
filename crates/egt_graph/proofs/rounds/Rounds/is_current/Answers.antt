use Rattle.std.proofs.Common.{◌≡◌, sym, ap₂, ◌∙◌, rules}
use Rattle.egt_graph.specs.Prelude.{entry_front, front, Running}
use Rattle.egt_graph.proofs.Running.{running_front}
use Rattle.egt_graph.proofs.rounds.Rounds.is_current.Goals as goal

pub returns : goal.returns
returns g c =
    let v = c.self.inside in
    let running : c.self.inside.phase ≡ Running = search rules in
    let same : c.args.batch.now.round ≡ c.self.inside.round = search rules in
    let is : entry_front c.deref.result.now c.self.inside.round c.block.result ≡ front (g.G.Game.graph c.self.inside.game.now) c.self.inside.round c.args.batch.now.block =
    ap₂ (λ es block. entry_front es c.self.inside.round block) c.deref.ensures.value c.block.ensures.value
    ∙ running_front (g.G.Game.graph c.self.inside.game.now) (g.met.G.Game.lawful c.self.inside.game.now) _ _ _ _ _ _ _ c.self.invariant running c.args.batch.now.block in
    rw (← c.self.view_is) (
      λ t. record { running = running; this_round = same; whole = sym c.nodes.ensures.value ∙ c.is_block_front.ensures.0 t ∙ is },
      λ current. c.is_block_front.ensures.1 (c.nodes.ensures.value ∙ current.whole ∙ sym is),
    )
