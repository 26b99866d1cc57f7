use Rattle.std.proofs.Common.{arith}
use Rattle.egt_index.proofs.AtIndex.{indexed_by}
use Rattle.egt_index.proofs.Exists.{index_settled, index_spelled}
use Rattle.egt_index.proofs.spelling.position_of.Goals as goal

pub spelled_position-requires : goal.spelled_position-requires
spelled_position-requires c = let found = indexed_by c.facts.ensures c.args.class c.args.index (omega (arith, c.number-number.ensures.below, c.number-number.ensures.value)) c.requires in (found.0, found.1)

pub returns-clause-settled : goal.returns-clause-settled
returns-clause-settled c =
    let found = indexed_by c.facts.ensures c.args.class c.args.index (omega (arith, c.number-number.ensures.below, c.number-number.ensures.value)) c.requires in
    index_settled c.facts.ensures found.0 c.spelled_position.result c.args.class c.args.index found.1.admissible found.2 c.spelled_position.ensures

pub returns-clause-index : goal.returns-clause-index
returns-clause-index c =
    let found = indexed_by c.facts.ensures c.args.class c.args.index (omega (arith, c.number-number.ensures.below, c.number-number.ensures.value)) c.requires in
    index_spelled c.facts.ensures found.0 c.spelled_position.result c.args.class c.args.index found.1.admissible found.2 c.spelled_position.ensures
