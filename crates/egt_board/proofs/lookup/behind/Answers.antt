use Rattle.std.proofs.Common.{ap, ◌∙◌, arith}
use Rattle.egt_board.specs.Prelude.{bit_and, and_le_l, line_of}
use Rattle.egt_board.proofs.Computed.{behind_shows}
use Rattle.egt_board.proofs.lookup.behind.Goals as goal

pub returns : goal.returns
returns c =
    let few = and_le_l c.line.result c.beyond.result in
    behind_shows c.args.first c.args.second (bit_and c.line.result c.beyond.result) (omega arith) (omega arith) (omega arith)
    (ap (λ l. bit_and l c.beyond.result) c.line.ensures ∙ ap (λ a. bit_and (line_of c.args.first c.args.second) a) c.beyond.ensures)
