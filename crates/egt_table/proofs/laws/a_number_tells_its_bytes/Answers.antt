use Rattle.egt_table.proofs.Digits.{one_list}
use Rattle.egt_table.proofs.laws.a_number_tells_its_bytes.Goals as goal

pub returns : goal.returns
returns c = one_list
