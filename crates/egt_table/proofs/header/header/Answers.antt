use Rattle.egt_table.specs.File.{header_fields}
use Rattle.egt_table.proofs.header.header.Goals as goal

pub returns : goal.returns
unfolding header_fields
returns c =
    simp (c.write_u32.ensures, c.write_u16.ensures, c.write_u16-2.ensures, c.write_u16-3.ensures, c.write_u16-4.ensures, c.columns_in.ensures, c.write_u32-2.ensures, c.from.ensures, c.number.ensures.value, c.size.ensures)
