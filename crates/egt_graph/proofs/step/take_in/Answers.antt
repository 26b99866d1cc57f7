use Rattle.std.proofs.Common.{length, ◌∙◌, arith}
use Rattle.egt_graph.proofs.BatchTaken.{turn_from, sources_within, turn_won, turn_lost, turn_waited, turns_begin, turns_end}
use Rattle.egt_graph.proofs.step.take_in.Goals as goal
use Rattle.egt_graph.proofs.step.take_in.Goals.{then-entries-nodes, else-entries-nodes}

pub loop-k-init : goal.loop-k-init
loop-k-init g c =
    turns_begin (g.G.Game.graph c.args._game.now) (g.met.G.Game.lawful c.args._game.now) c.args.round c.args.posted.now c.nodes-nodes.result.now
    c.args.round c.args.round c.args.entries.now c.args.waits.now c.requires.amid

pub take_back-requires-clause-within : goal.take_back-requires-clause-within
take_back-requires-clause-within g c =
    let turn = turn_from (g.G.Game.graph c.args._game.now) (g.G.Game.graph c.args.batch.now.game) c.requires.alike c.args.round c.args.batch.now.block c.loop-k.k
    c.args.posted.now c.nodes-nodes.result.now c.args.batch.now.nodes c.targets-sources.result.now c.nodes-nodes.ensures.value c.requires.whole c.loop-k-test.true c.requires.fresh c.targets-sources.ensures in
    sources_within (g.G.Game.graph c.args._game.now) (g.met.G.Game.lawful c.args._game.now) c.args.round c.args.batch.now.block c.loop-k.k c.args.posted.now
    c.nodes-nodes.result.now c.targets-sources.result.now turn (length c.loop-k.entries) (omega (arith, c.loop-k.auto.entries, c.requires.entries_long))

pub take_back-requires-clause-waited : goal.take_back-requires-clause-waited
take_back-requires-clause-waited g c =
    let turn = turn_from (g.G.Game.graph c.args._game.now) (g.G.Game.graph c.args.batch.now.game) c.requires.alike c.args.round c.args.batch.now.block c.loop-k.k
    c.args.posted.now c.nodes-nodes.result.now c.args.batch.now.nodes c.targets-sources.result.now c.nodes-nodes.ensures.value c.requires.whole c.loop-k-test.true c.requires.fresh c.targets-sources.ensures in
    turn_waited (g.G.Game.graph c.args._game.now) (g.met.G.Game.lawful c.args._game.now) c.args.round c.args.batch.now.block c.loop-k.k c.args.posted.now
    c.nodes-nodes.result.now c.targets-sources.result.now c.args.round c.args.round c.loop-k.entries c.loop-k.waits turn c.loop-k.invariant c.if-entries-nodes.true

pub mark_wins-requires-clause-within : goal.mark_wins-requires-clause-within
mark_wins-requires-clause-within g c =
    let turn = turn_from (g.G.Game.graph c.args._game.now) (g.G.Game.graph c.args.batch.now.game) c.requires.alike c.args.round c.args.batch.now.block c.loop-k.k
    c.args.posted.now c.nodes-nodes.result.now c.args.batch.now.nodes c.targets-sources.result.now c.nodes-nodes.ensures.value c.requires.whole c.loop-k-test.true c.requires.fresh c.targets-sources.ensures in
    sources_within (g.G.Game.graph c.args._game.now) (g.met.G.Game.lawful c.args._game.now) c.args.round c.args.batch.now.block c.loop-k.k c.args.posted.now
    c.nodes-nodes.result.now c.targets-sources.result.now turn (length c.loop-k.entries) (omega (arith, c.loop-k.auto.entries, c.requires.entries_long))

pub loop-k-preserved : goal.loop-k-preserved
loop-k-preserved g c =
    let turn = turn_from (g.G.Game.graph c.args._game.now) (g.G.Game.graph c.args.batch.now.game) c.requires.alike c.args.round c.args.batch.now.block c.loop-k.k
    c.args.posted.now c.nodes-nodes.result.now c.args.batch.now.nodes c.targets-sources.result.now c.nodes-nodes.ensures.value c.requires.whole c.loop-k-test.true c.requires.fresh c.targets-sources.ensures in
    elim c.if-entries-nodes.branch [
      | then-entries-nodes w ↦ rw (w.entries-is, w.waits-is)
          (turn_won (g.G.Game.graph c.args._game.now) (g.met.G.Game.lawful c.args._game.now) c.args.round c.args.batch.now.block c.loop-k.k c.args.posted.now
          c.nodes-nodes.result.now c.targets-sources.result.now c.args.round c.args.round c.loop-k.entries c.loop-k.waits _ _ turn c.loop-k.invariant w.if-entries-nodes.true w.take_back.ensures)
      | else-entries-nodes w ↦ rw (w.entries-is, w.waits-is)
          (turn_lost (g.G.Game.graph c.args._game.now) (g.met.G.Game.lawful c.args._game.now) c.args.round c.args.batch.now.block c.loop-k.k c.args.posted.now
          c.nodes-nodes.result.now c.targets-sources.result.now c.args.round c.args.round c.loop-k.entries c.loop-k.waits _ turn c.loop-k.invariant w.if-entries-nodes.false w.mark_wins.ensures)
    ]

pub returns-clause-amid : goal.returns-clause-amid
returns-clause-amid g c =
    rw c.block.ensures.value
    (turns_end (g.G.Game.graph c.args._game.now) (g.met.G.Game.lawful c.args._game.now) c.args.round c.args.batch.now.block c.args.posted.now
    c.nodes-nodes.result.now c.args.round c.args.round c.loop-k.entries c.loop-k.waits (c.nodes-nodes.ensures.value ∙ c.requires.whole) c.requires.in_range c.requires.fresh
    c.loop-k.k (omega arith) c.loop-k.invariant)
