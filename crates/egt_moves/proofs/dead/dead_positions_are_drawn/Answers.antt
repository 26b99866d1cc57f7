use Rattle.egt_moves.specs.Chess.{chess}
use Rattle.egt_moves.proofs.NextMoves.{chess_steps}
use Rattle.egt_moves.proofs.Nearest.{dead_drawn, stalemate_dead}
use Rattle.egt_moves.proofs.dead.dead_positions_are_drawn.Goals as goal

pub returns-clause-drawn : goal.returns-clause-drawn
returns-clause-drawn c = dead_drawn chess chess_steps

pub returns-clause-stalemate : goal.returns-clause-stalemate
returns-clause-stalemate c = stalemate_dead chess
