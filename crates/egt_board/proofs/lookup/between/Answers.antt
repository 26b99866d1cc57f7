use Rattle.std.proofs.Common.{ap, ◌∙◌, arith}
use Rattle.egt_board.specs.Prelude.{bit_and, bit_xor, and_le_l, below, line_of}
use Rattle.egt_board.proofs.Computed.{between_shows}
use Rattle.egt_board.proofs.lookup.between.Goals as goal

pub returns : goal.returns
returns c =
    let ends = bit_xor c.below.result c.below-2.result in
    let few = and_le_l c.line.result ends in
    between_shows c.args.one c.args.other (bit_and c.line.result ends) (omega arith) (omega arith) (omega arith)
    (ap (λ l. bit_and l ends) c.line.ensures
    ∙ ap (λ a. bit_and (line_of c.args.one c.args.other) (bit_xor a c.below-2.result)) c.below.ensures
    ∙ ap (λ a. bit_and (line_of c.args.one c.args.other) (bit_xor (below c.args.one) a)) c.below-2.ensures)
