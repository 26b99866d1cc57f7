use Rattle.egt_board.proofs.Images.{images_kept}
use Rattle.egt_board.proofs.laws.images_come_by_mirrors.Goals as goal

pub returns : goal.returns
returns c = λ p q ok images. (images_kept p q ok images).mirrors
