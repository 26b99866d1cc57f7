use Rattle.egt_board.proofs.Sheltering.{no_occupant}
use Rattle.egt_board.proofs.safety.attacks_pass_over_no_occupant.Goals as goal

pub returns : goal.returns
returns c = no_occupant
