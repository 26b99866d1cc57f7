use Rattle.std.proofs.Common.{arith, length-append}
use Rattle.egt_table.specs.Prelude.{err_from_is_err_and, entries_bytes}
use Rattle.egt_table.proofs.Answers.{cut_more, misfit_more, misfit_of_cut}
use Rattle.egt_table.proofs.Entries.{entries_length}
use Rattle.egt_table.proofs.Known.{consumes_more}
use Rattle.egt_table.proofs.reading.read_columns.Goals as goal

pub returns-in_err-read_entries-2-clause-fault : goal.returns-in_err-read_entries-2-clause-fault
returns-in_err-read_entries-2-clause-fault g c =
    let mate = entries_length c.read_entries.new.column.items in
    let p = err_from_is_err_and c.from_residual-in_err-read_entries-2.result c.from_residual-in_err-read_entries-2.ensures.1 in
    rw (p.1, p.2)
    (misfit_of_cut _ _ c.in_err-read_entries-2.field-0.0
    (cut_more _ _ _ _ _ c.in_err-read_entries-2.field-0.0 c.in_ok-read_entries.ensures.bytes c.in_err-read_entries-2.ensures.fault (omega (arith, mate, c.in_ok-read_entries.ensures.long))))

pub returns-in_err-read_entries-3-clause-fault : goal.returns-in_err-read_entries-3-clause-fault
returns-in_err-read_entries-3-clause-fault g c = grind (arith, entries_length, length-append, entries_bytes, err_from_is_err_and, misfit_of_cut, cut_more, consumes_more, c.from_residual-in_err-read_entries-3.ensures.1, c.in_ok-read_entries.ensures.bytes, c.in_ok-read_entries-2.ensures.bytes, c.in_err-read_entries-3.ensures.fault, c.in_ok-read_entries.ensures.long, c.in_ok-read_entries-2.ensures.long)

pub returns-clause-fault : goal.returns-clause-fault
returns-clause-fault g c = grind (arith, entries_bytes, entries_length, consumes_more, misfit_more, length-append, c.in_ok-read_entries.ensures.long, c.in_ok-read_entries-2.ensures.long, c.in_ok-read_entries-3.ensures.long, c.in_ok-read_entries.ensures.bytes, c.in_ok-read_entries-2.ensures.bytes, c.in_ok-read_entries-3.ensures.bytes, c.read_end.ensures.fault)
