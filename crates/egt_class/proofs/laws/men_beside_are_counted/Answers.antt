use Rattle.egt_class.proofs.NonKings.{one_king_each}
use Rattle.egt_class.proofs.TwoNonKings.{are_beside}
use Rattle.egt_class.proofs.laws.men_beside_are_counted.Goals as goal

pub returns : goal.returns
returns c = λ p one other ok are. are_beside c.one_square_changes.ensures.cleared p one other ok.on_board (one_king_each p ok c.one_king_is_counted.ensures) are
