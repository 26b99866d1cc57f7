use Rattle.egt_board.proofs.Images.{images_on, images_kept}
use Rattle.egt_board.proofs.laws.images_form_classes.Goals as goal

pub returns-clause-back : goal.returns-clause-back
returns-clause-back c = λ p q ok images. (images_kept p q ok images).back

pub returns-clause-on : goal.returns-clause-on
returns-clause-on c = images_on
