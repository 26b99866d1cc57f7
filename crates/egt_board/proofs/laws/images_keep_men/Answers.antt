use Rattle.egt_board.proofs.Images.{images_kept}
use Rattle.egt_board.proofs.laws.images_keep_men.Goals as goal

pub returns-clause-admissible : goal.returns-clause-admissible
returns-clause-admissible c = λ p q ok images. (images_kept p q ok images).admissible

pub returns-clause-settled : goal.returns-clause-settled
returns-clause-settled c = λ p q ok images. (images_kept p q ok images).settled

pub returns-clause-men : goal.returns-clause-men
returns-clause-men c = λ p q ok images. (images_kept p q ok images).men
