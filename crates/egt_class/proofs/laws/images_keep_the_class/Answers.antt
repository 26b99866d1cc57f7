use Rattle.egt_class.proofs.OneClass.{image_class}
use Rattle.egt_class.proofs.laws.images_keep_the_class.Goals as goal

pub returns : goal.returns
returns c p q n flipped ok images is = image_class p q n flipped (c.images_keep_men.ensures.men p q ok images) is
