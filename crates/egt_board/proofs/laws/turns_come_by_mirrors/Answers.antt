use Rattle.egt_board.proofs.TurnMirrors.{turned_mirrors, mirrors_turn}
use Rattle.egt_board.proofs.laws.turns_come_by_mirrors.Goals as goal

pub returns-clause-mirrored : goal.returns-clause-mirrored
returns-clause-mirrored c = turned_mirrors

pub returns-clause-turned : goal.returns-clause-turned
returns-clause-turned c = mirrors_turn
