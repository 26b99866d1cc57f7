use Rattle.egt_class.proofs.NonKings.{one_king_each}
use Rattle.egt_steps.proofs.ChildMoves.{stays, leaves, leads}
use Rattle.egt_steps.proofs.class_moves.moves_lead_into_the_class_or_a_child.Goals as goal

pub returns-clause-quiet : goal.returns-clause-quiet
returns-clause-quiet c p q m n flipped ok is step quiet plain = stays p q m n flipped is (c.moves_exchange_men.ensures p q m ok step) quiet plain

pub returns-clause-other : goal.returns-clause-other
returns-clause-other c p q m n flipped n_in ok is step other =
    leaves p q m n flipped is (c.moves_exchange_men.ensures p q m ok step) n_in
    (one_king_each q (c.moves_keep_admissibility.ensures p q m ok step) c.one_king_is_counted.ensures) other

pub returns-clause-any : goal.returns-clause-any
returns-clause-any c p q m n flipped n_in ok is step =
    leads p q m n flipped is (c.moves_exchange_men.ensures p q m ok step) n_in
    (one_king_each q (c.moves_keep_admissibility.ensures p q m ok step) c.one_king_is_counted.ensures)
