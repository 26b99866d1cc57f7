use Rattle.egt_board.proofs.Turns.{images_turned, turned_is_image, images_told}
use Rattle.egt_board.proofs.laws.images_are_turns.Goals as goal

pub returns-clause-by_number : goal.returns-clause-by_number
returns-clause-by_number c = λ p q ok. (images_turned p q ok, λ t. turned_is_image t.0 t.1 p q t.2 t.3 t.4)

pub returns-clause-told : goal.returns-clause-told
returns-clause-told c = images_told
