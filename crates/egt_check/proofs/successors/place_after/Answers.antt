use Rattle.std.proofs.Common.{refl, subst}
use Rattle.egt_check.specs.Prelude.{Setup, leads_to_one, IsPlaceOf}
use Rattle.egt_check.proofs.successors.place_after.Goals as goal

pub place_by_men-requires : goal.place_by_men-requires
place_by_men-requires c =
    let p = c.args.position.now in
    let m = c.args.chess_move.now in
    let ok = c.side-side.ensures.admissible in
    let (q, leads) = c.requires.legal in
    let (off, none) = c.is_without_en_passant.ensures c.if-is_without_en_passant.true m q refl refl leads in
    (q, c.facts.ensures.step_admissible p q m ok leads, c.after-next.ensures p q ok c.requires.men leads off, none)

pub returns-then-is_without_en_passant : goal.returns-then-is_without_en_passant
returns-then-is_without_en_passant c = λ q leads.
    let p = c.args.position.now in
    let m = c.args.chess_move.now in
    let ok = c.side-side.ensures.admissible in
    let (off, none) = c.is_without_en_passant.ensures c.if-is_without_en_passant.true m q refl refl leads in
    c.place_by_men.ensures q (c.facts.ensures.step_admissible p q m ok leads) (c.after-next.ensures p q ok c.requires.men leads off) none

pub returns : goal.returns
returns c = λ q leads.
    subst (λ (r : Setup). IsPlaceOf c.place_of.result r)
    (leads_to_one c.args.position.now c.play_legal.result q c.args.chess_move.now c.play_legal.ensures leads) c.place_of.ensures
