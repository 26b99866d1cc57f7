use Rattle.std.proofs.Common.{false, IfNone, sym, subst}
use Rattle.egt_index.specs.Prelude.{IsIndex, IsVoid}
use Rattle.egt_index.proofs.Classes.{spells_class}
use Rattle.egt_index.proofs.Exists.{index_settled, index_spelled, one_index}
use Rattle.egt_index.proofs.decoding.position.Goals as goal

-- what an index spells is settled
pub returns-in_err-position-clause-void : goal.returns-in_err-position-clause-void
returns-in_err-position-clause-void c =
    subst (λ o. IfNone o (IsVoid c.args.class c.args.code)) (sym c.from_residual.ensures)
    (λ p ok is. c.in_err-position.ensures.none is.image is.spells (index_settled c.facts.ensures p is.image c.args.class c.args.code ok is is.spells))

pub index-requires : goal.index-requires
index-requires c = (false, spells_class c.args.class c.args.code c.in_ok-position.position c.in_ok-position.ensures.spells)

pub returns-then-index-code-clause-index : goal.returns-then-index-code-clause-index
returns-then-index-code-clause-index c = subst (IsIndex c.args.class c.in_ok-position.position) c.if-index-code.true c.index.ensures

-- and is the index of what it spells
pub returns-else-index-code-clause-void : goal.returns-else-index-code-clause-void
returns-else-index-code-clause-void c = λ p ok is.
    let position = c.in_ok-position.position in
    let own = index_spelled c.facts.ensures p position c.args.class c.args.code ok is c.in_ok-position.ensures.spells in
    c.if-index-code.false (one_index c.facts.ensures position c.args.class c.index.result c.args.code c.in_ok-position.ensures.spells.admissible c.index.ensures own)
