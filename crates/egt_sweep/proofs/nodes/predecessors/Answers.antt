use Rattle.std.proofs.Common.{ℕ, ◌<◌, subst}
use Rattle.egt_sweep.proofs.Backward.{at_settled}
use Rattle.egt_sweep.proofs.NodeTests.{sources_told}
use Rattle.egt_sweep.proofs.nodes.predecessors.Goals as goal

pub sources-requires-clause-of : goal.sources-requires-clause-of
sources-requires-clause-of c = c.laws.ensures.indexed_class c.node-position.result c.args.class c.args.index c.node-position.ensures.spells.admissible c.node-position.ensures.index

pub sources-requires-clause-settled : goal.sources-requires-clause-settled
sources-requires-clause-settled c =
    at_settled c.laws.ensures c.args.class (subst (λ (n : ℕ). n < 36) c.number-number.ensures.value c.number-number.ensures.below) c.args.index c.node-position.result c.node-position.ensures

pub returns : goal.returns
returns c = sources_told c.laws.ensures c.args.class c.args.index c.args.metric c.sources.result.items (subst (λ (n : ℕ). n < 36) c.number-number.ensures.value c.number-number.ensures.below)
    c.sources.ensures.ascending (c.sources.ensures.exact c.args.index c.node-position.ensures)
