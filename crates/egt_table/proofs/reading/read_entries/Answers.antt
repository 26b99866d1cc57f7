use Rattle.std.proofs.Common.{ℕ, arith}
use Rattle.egt_table.specs.Prelude.{length-take, err_from_is_err_and}
use Rattle.egt_table.proofs.Answers.{cut_more}
use Rattle.egt_table.proofs.Entries.{entries_length}
use Rattle.egt_table.proofs.reading.read_entries.Goals as goal

pub returns-in_err-read_piece-clause-fault : goal.returns-in_err-read_piece-clause-fault
returns-in_err-read_piece-clause-fault g c =
    let done = entries_length c.pieces.column.items in
    let p = err_from_is_err_and c.from_residual.result c.from_residual.ensures.1 in
    rw (p.1, p.2) (cut_more _ _ _ _ _ c.in_err-read_piece.field-0.0 c.pieces.invariant.bytes c.in_err-read_piece.ensures.fault (omega (arith, done, length-take {A = ℕ})))
