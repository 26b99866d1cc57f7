use Rattle.egt_steps.proofs.TakenInPassing.{four_kinds, none_passing}
use Rattle.egt_steps.proofs.pawn_laws.pawns_moves_are_of_four_kinds.Goals as goal

pub returns : goal.returns
returns c = record { kinds = four_kinds; without_a_target = none_passing }
