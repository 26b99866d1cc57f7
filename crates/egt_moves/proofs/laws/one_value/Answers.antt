use Rattle.egt_moves.specs.Chess.{chess}
use Rattle.egt_moves.proofs.MateEnds.{chess_ends}
use Rattle.egt_moves.proofs.Exclusion as exclusion
use Rattle.egt_moves.proofs.laws.one_value.Goals as goal

pub returns-clause-won_or_lost : goal.returns-clause-won_or_lost
returns-clause-won_or_lost c = exclusion.mates_not_mated chess chess_ends

pub returns-clause-one : goal.returns-clause-one
returns-clause-one c = exclusion.one_value chess chess_ends
