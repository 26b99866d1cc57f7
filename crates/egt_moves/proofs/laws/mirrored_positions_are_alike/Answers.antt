use Rattle.egt_moves.specs.Prelude.{chess, AreMirrored}
use Rattle.egt_moves.proofs.MirroredMoves.{mirrored_alike}
use Rattle.egt_moves.proofs.AlikeWorth.{same_worth, same_distance}
use Rattle.egt_moves.proofs.laws.mirrored_positions_are_alike.Goals as goal

pub returns-clause-values : goal.returns-clause-values
returns-clause-values c m p p' r v = same_worth chess (AreMirrored m) (mirrored_alike m) p p' v r

pub returns-clause-distances : goal.returns-clause-distances
returns-clause-distances c m p p' r v = same_distance chess (AreMirrored m) (mirrored_alike m) p p' v r
