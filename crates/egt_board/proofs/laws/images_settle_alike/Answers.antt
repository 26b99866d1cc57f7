use Rattle.egt_board.proofs.SettledForms.{turned_settles, images_settle}
use Rattle.egt_board.proofs.laws.images_settle_alike.Goals as goal

pub returns-clause-turns : goal.returns-clause-turns
returns-clause-turns c = turned_settles

pub returns-clause-images : goal.returns-clause-images
returns-clause-images c = images_settle
