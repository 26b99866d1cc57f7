use Rattle.egt_moves.specs.Prelude.{chess}
use Rattle.egt_moves.proofs.SettledMoves.{Settled, settled_alike, settles}
use Rattle.egt_moves.proofs.AlikeWorth.{same_worth, same_distance}
use Rattle.egt_moves.proofs.laws.settled_positions_are_alike.Goals as goal

pub returns-clause-values : goal.returns-clause-values
returns-clause-values c p q ok s v = same_worth chess Settled settled_alike p q v (settles p q ok s)

pub returns-clause-distances : goal.returns-clause-distances
returns-clause-distances c p q ok s v = same_distance chess Settled settled_alike p q v (settles p q ok s)
