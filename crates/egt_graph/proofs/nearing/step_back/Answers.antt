use Rattle.std.proofs.Common.{◌+◌, ◌∙◌, length, ap, subst, sym, refl, arith}
use Rattle.egt_graph.specs.Prelude.{with_items_is, is_loss_of, is_win_of, Finds}
use Rattle.egt_graph.proofs.Nearby.{found_nodes, due_within, round_done, found_at}
use Rattle.egt_graph.proofs.nearing.step_back.Goals as goal

pub find_next-requires-clause-nodes : goal.find_next-requires-clause-nodes
find_next-requires-clause-nodes g c =
    rw c.deref-2.ensures.value (found_nodes (g.G.Game.graph c.args.game.now) c.args.round c.args.run.now c.requires.known c.in_ok-found.found.items (rw c.deref.ensures.value at c.in_ok-found.ensures))

pub find_next-requires-clause-lost_within : goal.find_next-requires-clause-lost_within
find_next-requires-clause-lost_within g c = grind (arith, due_within, is_loss_of, c.deref_mut.ensures.value, c.requires.known.long, c.due.ensures, c.requires.known.lost)

pub find_next-requires-clause-won_within : goal.find_next-requires-clause-won_within
find_next-requires-clause-won_within g c = grind (arith, due_within, is_win_of, c.deref_mut.ensures.value, c.requires.known.long, c.due-2.ensures, c.requires.known.won)

pub returns : goal.returns
returns g c =
    let run = c.args.run.now in
    let finds = (rw (c.due.ensures, c.due-2.ensures, c.deref-2.ensures.value, c.deref_mut.ensures.value) at c.find_next.ensures) in
    let long = c.find_next.auto.entries ∙ ap length c.deref_mut.ensures.value in
    let is = with_items_is run.entries c.find_next.new.entries (let own = run.entries.ok.0 in omega (arith, long, own)) in
    round_done (g.G.Game.graph c.args.game.now) (g.met.G.Game.lawful c.args.game.now) c.args.round run c.requires.known c.in_ok-found.found.items
    (rw c.deref.ensures.value at c.in_ok-found.ensures) _
    (subst (λ xs. Finds run.entries.items (found_at (g.G.Game.graph c.args.game.now) c.in_ok-found.found.items run.lost_due run.won_due c.args.round) (c.args.round + 1) xs) (sym is) finds)
    (ap length is ∙ long) refl refl
