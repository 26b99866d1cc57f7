use Rattle.std.proofs.Common.{ℕ, ◌<◌, subst}
use Rattle.egt_sweep.proofs.NodeTests.{edges_told}
use Rattle.egt_sweep.proofs.nodes.successors.Goals as goal

pub edges-requires : goal.edges-requires
edges-requires c = c.laws.ensures.indexed_class c.node-position.result c.args.class c.args.index c.node-position.ensures.spells.admissible c.node-position.ensures.index

pub returns : goal.returns
returns c = edges_told c.laws.ensures c.args.class c.args.index c.args.metric c.edges.result.items (subst (λ (n : ℕ). n < 36) c.number-number.ensures.value c.number-number.ensures.below)
    c.edges.ensures.ascending (c.edges.ensures.exact c.args.index c.node-position.ensures)
