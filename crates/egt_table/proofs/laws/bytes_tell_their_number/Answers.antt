use Rattle.egt_table.proofs.Digits.{one_number}
use Rattle.egt_table.proofs.laws.bytes_tell_their_number.Goals as goal

pub returns : goal.returns
returns c = one_number
