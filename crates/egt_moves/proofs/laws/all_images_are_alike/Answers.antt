use Rattle.egt_moves.specs.Prelude.{chess, Chain}
use Rattle.egt_moves.proofs.ImageMoves.{AreReflected, reflections_alike, chain_of}
use Rattle.egt_moves.proofs.AlikeWorth.{same_worth, same_distance}
use Rattle.egt_moves.proofs.laws.all_images_are_alike.Goals as goal

pub returns-clause-values : goal.returns-clause-values
returns-clause-values c p q ok images v =
    let r = c.images_come_by_mirrors.ensures p q ok images in
    same_worth chess (Chain AreReflected r.0) (reflections_alike r.0) p q v (chain_of r.0 p q r.1)

pub returns-clause-distances : goal.returns-clause-distances
returns-clause-distances c p q ok images v =
    let r = c.images_come_by_mirrors.ensures p q ok images in
    same_distance chess (Chain AreReflected r.0) (reflections_alike r.0) p q v (chain_of r.0 p q r.1)
