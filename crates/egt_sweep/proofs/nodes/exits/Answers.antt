use Rattle.std.proofs.Common.{◌≡◌, ap, sym, ◌∙◌}
use Rattle.egt_sweep.specs.Prelude.{table_at, exits_at, exits_from, metric_of, known}
use Rattle.egt_sweep.proofs.KingsAlone.{kings_have_no_exit, kings_without_pawns}
use Rattle.egt_sweep.proofs.Linked.{position_is, node_at}
use Rattle.egt_sweep.proofs.nodes.exits.Goals as goal

pub returns-then-number-eq0 : goal.returns-then-number-eq0
unfolding exits_at
returns-then-number-eq0 c =
    let laws = c.laws.ensures in
    let class = c.args.class in
    let (p, at) = node_at laws class c.args.index c.requires.node in
    let first : class ≡ 0 = sym c.number.ensures.value ∙ c.if-number-eq0.true in
    let of = laws.indexed_class p class c.args.index at.spells.admissible at.index in
    let none = c.a_class_without_pawns_has_none.ensures class of.0 p at.spells.admissible of.1 (kings_without_pawns class first) in
    c.new.ensures ∙ kings_have_no_exit laws _ _ class p first at.spells.admissible of none ∙ ap (exits_from _ _ class) (sym ((position_is laws class c.args.index p).1 at))

pub exits_of-requires-clause-of : goal.exits_of-requires-clause-of
exits_of-requires-clause-of c = c.laws.ensures.indexed_class c.node-position.result c.args.class c.args.index c.node-position.ensures.spells.admissible c.node-position.ensures.index

pub returns : goal.returns
unfolding exits_at
returns c =
    let objective = c.args.objective.now in
    c.exits_of.ensures ∙ ap (exits_from (known (table_at c.args.library.now) c.args.class objective) (metric_of objective) c.args.class) (sym ((position_is c.laws.ensures c.args.class c.args.index c.node-position.result).1 c.node-position.ensures))
