use Rattle.std.proofs.Common.{arith, ◌+◌, ◌*◌, slice_index}
use Rattle.egt_index.specs.Prelude.{TURNED}
use Rattle.egt_index.proofs.TurnTable.{TurnEntry, entry_told}
use Rattle.egt_index.proofs.turning.turned_square.Goals as goal

pub at-requires : goal.at-requires
at-requires c =
    let told : TurnEntry c.args.turn c.args.square (slice_index TURNED (64 * c.from.result + c.from-2.result)) =
    entry_told c.args.turn c.args.square (64 * c.from.result + c.from-2.result) c.requires (omega (arith, c.number.ensures.on_board, c.number.ensures.value))
    (omega (arith, c.from.ensures, c.from-2.ensures, c.number.ensures.value)) in
    let is = c.entry-number.ensures in let below = told.on_board in omega arith

pub returns : goal.returns
returns c = grind (arith, entry_told, c.requires, c.number.ensures.on_board, c.number.ensures.value, c.from.ensures, c.from-2.ensures, c.at.ensures, c.entry-number.ensures)
