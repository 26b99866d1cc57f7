use Rattle.egt_moves.specs.Turned.{turned_move}
use Rattle.egt_moves.proofs.ImageMoves.{reflections_alike, chain_of}
use Rattle.egt_moves.proofs.TurnedMoves.{leads_admissible, leads_keeps, like_turned}
use Rattle.egt_moves.proofs.laws.images_keep_steps.Goals as goal

pub returns-clause-turns : goal.returns-clause-turns
returns-clause-turns c n flipped p p' q m ok keeps is leads =
    let like = like_turned n flipped p p' q m (c.turns_come_by_mirrors.ensures.mirrored n flipped p p' ok keeps is) leads in
    (like.0, like.1, c.turns_come_by_mirrors.ensures.turned n flipped q like.0 (leads_admissible p q m ok leads) like.2, leads_keeps n p q m ok leads keeps, like.3)

pub returns-clause-images : goal.returns-clause-images
returns-clause-images c p p' q m ok images leads =
    let t = (c.images_are_turns.ensures.by_number p p' ok).0 images in
    let ok' = leads_admissible p q m ok leads in
    let like = like_turned t.0 t.1 p p' q m (c.turns_come_by_mirrors.ensures.mirrored t.0 t.1 p p' ok t.3 t.4) leads in
    let is = c.turns_come_by_mirrors.ensures.turned t.0 t.1 q like.0 ok' like.2 in
    (turned_move t.0 t.1 m, like.0, like.1, (c.images_are_turns.ensures.by_number q like.0 ok').1 (t.0, t.1, t.2, leads_keeps t.0 p q m ok leads t.3, is), like.3)

pub returns-clause-checkmate : goal.returns-clause-checkmate
returns-clause-checkmate c p p' ok images =
    let r = c.images_come_by_mirrors.ensures p p' ok images in
    (reflections_alike r.0).checkmate p p' (chain_of r.0 p p' r.1)
