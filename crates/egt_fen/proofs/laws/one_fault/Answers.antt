use Rattle.egt_fen.proofs.Faults.{one_fault, spelled_faultless}
use Rattle.egt_fen.proofs.laws.one_fault.Goals as goal

pub returns : goal.returns
returns c = record { only = one_fault; none = spelled_faultless }
