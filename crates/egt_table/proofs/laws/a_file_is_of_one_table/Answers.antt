use Rattle.egt_table.proofs.Offsets.{one_table}
use Rattle.egt_table.proofs.laws.a_file_is_of_one_table.Goals as goal

pub returns : goal.returns
returns c = one_table
