use Rattle.std.proofs.Common.{◌≡◌, length, set, true, ap, ◌∙◌, rules}
use Rattle.egt_graph.specs.Prelude.{Running}
use Rattle.egt_graph.proofs.Running.{written, amid_of, posted_run}
use Rattle.egt_graph.proofs.rounds.Rounds.post.Goals as goal

pub take_in-requires-clause-amid : goal.take_in-requires-clause-amid
take_in-requires-clause-amid g c =
    let running : c.self.inside.phase ≡ Running = search rules in
    rw (c.deref_mut.ensures.value, c.deref_mut-2.ensures.value, c.deref_mut-3.ensures.value)
    ((amid_of (g.G.Game.graph c.self.inside.game.now) _ _ _ _ _ _ _ c.self.invariant running).0)

pub invariant_of-self : goal.invariant_of-self
invariant_of-self g c =
    let running : c.self.inside.phase ≡ Running = search rules in
    let entries_long : length c.take_in.new.entries ≡ length c.self.inside.entries.items = search rules in
    let waits_long : length c.take_in.new.waits ≡ length c.self.inside.waits.items = search rules in
    let posted_long : length c.take_in.new.posted ≡ length c.self.inside.posted.items = search rules in
    let entries_len : c.self.inside.entries.len ≡ length c.self.inside.entries.items = search rules in
    let waits_len : c.self.inside.waits.len ≡ length c.self.inside.waits.items = search rules in
    let posted_len : c.self.inside.posted.len ≡ length c.self.inside.posted.items = search rules in
    let ticked : c.take_in.new.posted ≡ set c.self.inside.posted.items c.args.batch.block true =
    c.take_in.ensures.ticked ∙ ap (λ flags. set flags c.args.batch.block true) c.deref_mut-3.ensures.value in
    rw (
      written c.self.inside.posted.len c.take_in.new.posted c.self.inside.posted.items posted_long posted_len,
      written c.self.inside.entries.len c.take_in.new.entries c.self.inside.entries.items entries_long entries_len,
      written c.self.inside.waits.len c.take_in.new.waits c.self.inside.waits.items waits_long waits_len,
    )
    (posted_run (g.G.Game.graph c.self.inside.game.now) _ _ _ _ _ _ _ c.self.invariant running c.args.batch.block
    c.take_in.new.entries c.take_in.new.waits c.take_in.new.posted ticked entries_long waits_long c.take_in.ensures.amid)
