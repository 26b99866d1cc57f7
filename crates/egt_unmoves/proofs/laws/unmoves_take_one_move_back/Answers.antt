use Rattle.egt_unmoves.proofs.Came.{same_move}
use Rattle.egt_unmoves.proofs.UnmoveList.{squares_within}
use Rattle.egt_unmoves.proofs.laws.unmoves_take_one_move_back.Goals as goal

pub returns-clause-one : goal.returns-clause-one
returns-clause-one c b q m n first second = same_move b m n q first second

pub returns-clause-within : goal.returns-clause-within
returns-clause-within c b q m comes = squares_within b m q comes
