use Rattle.std.proofs.Common.{arith}
use Rattle.egt_table.specs.Prelude.{err_from_is_err_and}
use Rattle.egt_table.proofs.Answers.{columns_answer, header_of_length}
use Rattle.egt_table.proofs.Versions.{length_of_file}
use Rattle.egt_table.proofs.table.Table.read.Goals as goal

pub returns-in_err-read_columns-clause-reads : goal.returns-in_err-read_columns-clause-reads
returns-in_err-read_columns-clause-reads g c =
    let p = err_from_is_err_and c.from_residual-in_err-read_columns.result c.from_residual-in_err-read_columns.ensures.1 in
    let version = c.in_ok-version.version in
    rw (p.1, p.2)
    (columns_answer version c.args.class _ _ _ _ c.in_err-read_columns.field-0.0 c.in_ok-version.ensures.header (header_of_length version c.args.class)
    (length_of_file version c.args.class _ _ _ c.in_ok-version.ensures.version (omega (arith, c.in_ok-mate.ensures)) (omega (arith, c.in_ok-zeroing.ensures)) (omega (arith, c.in_ok-reach.ensures)))
    c.in_ok-version.ensures.right c.in_err-read_columns.ensures.fault)
