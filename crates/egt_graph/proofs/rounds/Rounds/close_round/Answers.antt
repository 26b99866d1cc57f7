use Rattle.std.proofs.Common.{◌≡◌, length, false, replicate, refl, ◌+◌, ap, ◌∙◌, rules}
use Rattle.egt_graph.specs.Prelude.{Running}
use Rattle.egt_graph.proofs.Running.{written, due_nodes, due_waited, due_counted, Falls, falls, finished_run, next_run}
use Rattle.egt_graph.proofs.Running.{found_open, found_shut}
use Rattle.egt_graph.proofs.rounds.Rounds.close_round.Goals.{After-fall_due-unsettled}
use Rattle.egt_graph.proofs.rounds.Rounds.close_round.Goals as goal

pub fall_due-unsettled-requires-clause-losses_within : goal.fall_due-unsettled-requires-clause-losses_within
fall_due-unsettled-requires-clause-losses_within g c =
    rw (c.due.ensures, c.deref_mut.ensures.value)
    (due_nodes (g.G.Game.graph c.self.inside.game.now) _ c.self.inside.lost_due c.self.invariant.losses c.self.inside.round _ c.self.invariant.entries_long)

pub fall_due-unsettled-requires-clause-wins_within : goal.fall_due-unsettled-requires-clause-wins_within
fall_due-unsettled-requires-clause-wins_within g c =
    rw (c.due-2.ensures, c.deref_mut.ensures.value)
    (due_nodes (g.G.Game.graph c.self.inside.game.now) _ c.self.inside.won_due c.self.invariant.wins c.self.inside.round _ c.self.invariant.entries_long)

pub fall_due-unsettled-requires-clause-waited : goal.fall_due-unsettled-requires-clause-waited
fall_due-unsettled-requires-clause-waited g c =
    let running : c.self.inside.phase ≡ Running = search rules in
    rw (c.due-2.ensures, c.deref_mut-2.ensures.value) (due_waited (g.G.Game.graph c.self.inside.game.now) _ _ _ _ _ _ _ c.self.invariant running)

pub fall_due-unsettled-requires-clause-counted : goal.fall_due-unsettled-requires-clause-counted
fall_due-unsettled-requires-clause-counted g c =
    let running : c.self.inside.phase ≡ Running = search rules in
    rw (c.due-2.ensures, c.deref_mut-3.ensures.value) (due_counted (g.G.Game.graph c.self.inside.game.now) _ _ _ _ _ _ _ c.self.invariant running)

-- the exits of the round have fallen due
fallen : (g : _) (c : After-fall_due-unsettled g) → Falls (g.G.Game.graph c.self.inside.game.now)
    (record { limit = c.self.inside.limit; round = c.self.inside.round; phase = c.self.inside.phase; posted = c.self.inside.posted.items })
    c.self.inside.entries.items c.self.inside.waits.items c.self.inside.later.items
    c.fall_due-unsettled.new.entries c.fall_due-unsettled.new.waits c.fall_due-unsettled.new.later c.self.inside.lost.items
fallen g c =
    falls (g.G.Game.graph c.self.inside.game.now) (g.met.G.Game.lawful c.self.inside.game.now) _ _ _ _ _ _ _ c.self.invariant (search rules) (rw c.deref.ensures.value at c.if-not-all_set.ensures)
    _ _ _ _ _ _ _ _ c.deref_mut.ensures.value c.deref_mut-2.ensures.value c.deref_mut-3.ensures.value c.due.ensures c.due-2.ensures
    c.fall_due-unsettled.ensures.columns c.fall_due-unsettled.ensures.later
    c.fall_due-unsettled.auto.entries c.fall_due-unsettled.auto.waits c.fall_due-unsettled.auto.later

pub invariant_of-self : goal.invariant_of-self
invariant_of-self g c =
    let f = fallen g (goal.at.invariant_of-self g c).After-fall_due-unsettled in
    let none = found_shut (g.G.Game.graph c.self.inside.game.now) (g.met.G.Game.lawful c.self.inside.game.now) _ _ _ _ _ _ _ c.self.invariant _ _ _ f (rw c.deref-2.ensures.value at c.if-not-unsettled.ensures.still_open) in
    rw (
      written c.self.inside.entries.len c.fall_due-unsettled.new.entries c.self.inside.entries.items f.entries_long (search rules),
      written c.self.inside.waits.len c.fall_due-unsettled.new.waits c.self.inside.waits.items f.waits_long (search rules),
      written c.self.inside.later.len c.fall_due-unsettled.new.later c.self.inside.later.items f.later_long (search rules),
    )
    (finished_run (g.G.Game.graph c.self.inside.game.now) _ _ _ _ _ _ _ c.self.invariant _ _ _ f none)

pub returns-then-not-unsettled-clause-closes : goal.returns-then-not-unsettled-clause-closes
returns-then-not-unsettled-clause-closes g c =
    let f = fallen g (goal.at.returns-then-not-unsettled-clause-closes g c).After-fall_due-unsettled in
    let none = found_shut (g.G.Game.graph c.self.inside.game.now) (g.met.G.Game.lawful c.self.inside.game.now) _ _ _ _ _ _ _ c.self.invariant _ _ _ f (rw c.deref-2.ensures.value at c.if-not-unsettled.ensures.still_open) in
    rw (← c.self.view_is) (f.all, none, refl)

pub returns-then-self-clause-closes : goal.returns-then-self-clause-closes
returns-then-self-clause-closes g c =
    let f = fallen g (goal.at.returns-then-self-clause-closes g c).After-fall_due-unsettled in
    let some = found_open (g.G.Game.graph c.self.inside.game.now) (g.met.G.Game.lawful c.self.inside.game.now) _ _ _ _ _ _ _ c.self.invariant _ _ _ f (rw c.deref-2.ensures.value at c.if-not-unsettled.ensures.still_open) in
    rw (← c.self.view_is) (f.all, some, c.if-self.true, refl)

pub invariant_of-self-2 : goal.invariant_of-self-2
invariant_of-self-2 g c =
    let f = fallen g (goal.at.invariant_of-self-2 g c).After-fall_due-unsettled in
    let cleared = c.clear.ensures ∙ ap (λ n. replicate n false) (ap length c.deref_mut-4.ensures.value ∙ c.self.invariant.flags) in
    rw (
      written c.self.inside.posted.len c.clear.new.flags c.self.inside.posted.items (c.clear.auto.flags ∙ ap length c.deref_mut-4.ensures.value) (search rules),
      written c.self.inside.entries.len c.fall_due-unsettled.new.entries c.self.inside.entries.items f.entries_long (search rules),
      written c.self.inside.waits.len c.fall_due-unsettled.new.waits c.self.inside.waits.items f.waits_long (search rules),
      written c.self.inside.later.len c.fall_due-unsettled.new.later c.self.inside.later.items f.later_long (search rules),
    )
    (next_run (g.G.Game.graph c.self.inside.game.now) (g.met.G.Game.lawful c.self.inside.game.now) _ _ _ _ _ _ _ c.self.invariant (search rules) _ _ _ f c.if-self.false c.clear.new.flags cleared)

pub returns-clause-closes : goal.returns-clause-closes
returns-clause-closes g c =
    let f = fallen g (goal.at.returns-clause-closes g c).After-fall_due-unsettled in
    let some = found_open (g.G.Game.graph c.self.inside.game.now) (g.met.G.Game.lawful c.self.inside.game.now) _ _ _ _ _ _ _ c.self.invariant _ _ _ f (rw c.deref-2.ensures.value at c.if-not-unsettled.ensures.still_open) in
    let cleared = c.clear.ensures ∙ ap (λ n. replicate n false) (ap length c.deref_mut-4.ensures.value ∙ c.self.invariant.flags) in
    rw (← c.self.view_is, written c.self.inside.posted.len c.clear.new.flags c.self.inside.posted.items (c.clear.auto.flags ∙ ap length c.deref_mut-4.ensures.value) (search rules))
    (f.all, some, c.if-self.false, ap (λ flags. record { limit = c.self.inside.limit; round = c.self.inside.round + 1; phase = c.self.inside.phase; posted = flags }) cleared)
