use Rattle.std.proofs.Common.{◌≡◌, refl, subst}
use Rattle.egt_unmoves.specs.Prelude.{settled_form, AreImages, Setup, IsAdmissible, SettlesTo, KeepsPlay, IsTurnedBy}
use Rattle.egt_unmoves.specs.Prelude.{IsSetBy, turned_by, turned_move, ComesBy}
use Rattle.egt_unmoves.proofs.UnmoveImages.{keeps_before, pawn_turned, comes_turned}
use Rattle.egt_unmoves.proofs.laws.images_have_like_unmoves.Goals as goal

pub returns-clause-turns : goal.returns-clause-turns
returns-clause-turns c n flipped q q' u less keeps turned unmove =
    let m = unmove.0 in
    let takes = unmove.1 in
    let comes = takes.comes in
    let b = u.before in
    let b' : Setup = turned_by n flipped b in
    let ok : IsAdmissible b = comes.admissible in
    let keeps_b : KeepsPlay n b.men = keeps_before n b m q comes keeps in
    let turned_b : IsTurnedBy n flipped b b' = (c.turns_make_one.ensures.made n flipped b b' ok).1 refl in
    let set : IsSetBy n flipped b b' = (c.turns_make_one.ensures.set n flipped b b' ok).0 turned_b in
    let images : AreImages b b' = (c.images_are_turns.ensures.by_number b b' ok).1 (n, flipped, less, keeps_b, turned_b) in
    let step = c.images_keep_steps.ensures.turns n flipped b b' comes.led m ok keeps_b turned_b comes.leads in
    let led_ok : IsAdmissible comes.led = c.moves_lead_to_one.ensures.admissible b comes.led m ok comes.leads in
    let form : Setup = settled_form step.0 in
    let settles : SettlesTo step.0 form = (c.positions_settle_once.ensures.made step.0 form).1 refl in
    let alike : IsTurnedBy n flipped q form = c.images_settle_alike.ensures.turns n flipped comes.led step.0 q form led_ok step.3 step.2 comes.settles settles in
    let same : form ≡ q' = c.turns_make_one.ensures.one n flipped q form q' alike turned in
    let comes' : ComesBy b' (turned_move n flipped m) q' = comes_turned n flipped b b' set m q q' step.0 comes
    (c.images_keep_men.ensures.admissible b b' ok images) ((c.images_keep_men.ensures.settled b b' ok images).0 comes.settled) step.1 (subst (SettlesTo step.0) same settles) in
    let on = pawn_turned n flipped b b' set m.from comes.leads.man (ok.on_board m.from comes.leads.man comes.leads.stands) comes.leads.stands in (
      record { before = b'; pawn = u.pawn },
      (turned_move n flipped m, record { comes = comes'; pawn = (λ h. on.0 (takes.pawn.0 h), λ h. takes.pawn.1 (on.1 h)) }),
      turned_b,
      refl,
    )

pub returns-clause-images : goal.returns-clause-images
returns-clause-images c q q' u ok images unmove =
    let turn = (c.images_are_turns.ensures.by_number q q' ok).0 images in
    let like = returns-clause-turns c turn.0 turn.1 q q' u turn.2 turn.3 turn.4 unmove in (
      like.0,
      like.1,
      (c.images_are_turns.ensures.by_number u.before like.0.before unmove.1.comes.admissible).1
          (turn.0, turn.1, turn.2, keeps_before turn.0 u.before unmove.0 q unmove.1.comes turn.3, like.2),
      like.3,
    )
