use Rattle.egt_moves.specs.Chess.{chess}
use Rattle.egt_moves.proofs.Distances as distances
use Rattle.egt_moves.proofs.MateEnds.{chess_ends}
use Rattle.egt_moves.proofs.laws.one_zeroing_distance.Goals as goal

pub returns : goal.returns
returns c = distances.one_zeroing chess chess_ends
