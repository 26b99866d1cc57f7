use Rattle.egt_moves.specs.Prelude.{chess, Chain}
use Rattle.egt_moves.proofs.ImageMoves.{AreReflected, reflections_alike, chain_of}
use Rattle.egt_moves.proofs.Nearest.{same_reach}
use Rattle.egt_moves.proofs.SettledMoves.{Settled, settled_alike, settles}
use Rattle.egt_moves.proofs.dead.reach_is_kept.Goals as goal

pub returns-clause-settling : goal.returns-clause-settling
returns-clause-settling c p q ok s x = same_reach chess Settled settled_alike p q x (settles p q ok s)

pub returns-clause-images : goal.returns-clause-images
returns-clause-images c p q ok images x =
    let r = c.images_come_by_mirrors.ensures p q ok images in
    same_reach chess (Chain AreReflected r.0) (reflections_alike r.0) p q x (chain_of r.0 p q r.1)
