use Rattle.std.proofs.Common.{◌+◌, ◌*◌, get_or, ap, ◌∙◌, arith}
use Rattle.egt_board.specs.Prelude.{LONE}
use Rattle.egt_board.proofs.Computed.{lone_shows}
use Rattle.egt_board.proofs.lookup.lone_reach.Goals as goal

pub returns : goal.returns
returns c = lone_shows c.args.man c.args.from c.row_entry.result.bits (omega arith) (c.row_entry.ensures ∙ ap (λ r. get_or LONE (64 * r + c.args.from) 0) c.row.ensures.value)
