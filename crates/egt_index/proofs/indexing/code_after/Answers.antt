use Rattle.std.proofs.Common.{◌≢◌, ◌≡◌, ℕ, ◌/◌, ◌<◌, ◌==◌, ◌∷◌, [], Bool, Option, Some, cond, arith, ◌∙◌, sym, subst, ap}
use Rattle.egt_index.specs.Prelude.{is_some, side_number, turned_side, material_of, king_square, target_digit}
use Rattle.egt_index.specs.Prelude.{number_from, king_base, has_pawns, has_target, Tells, men_among, rest_of, CodeAfter}
use Rattle.egt_index.proofs.After.{ImageStood, image_stood, digits_after, code_stood}
use Rattle.egt_index.proofs.Best.{king_after, none_after}
use Rattle.egt_index.proofs.LeastTurn.{king_is}
use Rattle.egt_index.proofs.indexing.code_after.Goals as goal

pub returns-in_err-high : goal.returns-in_err-high
returns-in_err-high c = λ p has keeps.
    subst (CodeAfter c.args.class p c.args.turn) (sym c.from_residual.ensures)
    (none_after c.args.class p c.args.turn c.stand_after-after.result.white
    (λ q turn. king_after c.facts.ensures p q c.args.turn c.args.stand.now.white c.stand_after-after.result.white has.admissible turn
    (has.stood.all.1 ∙ ap Some (king_is (c.args.turn / 8 == 1))) c.stand_after-after.ensures.white)
    (subst (λ pawns. (digit : ℕ) → digit < king_base pawns → king_square pawns digit ≢ c.stand_after-after.result.white) c.has_pawns.ensures c.in_err-high.ensures.none))

pub returns : goal.returns
returns c = λ p has keeps.
    let image : ImageStood c.args.class p c.args.turn c.stand_after-after.result =
    image_stood c.facts.ensures c.args.class p c.args.turn c.args.stand.now c.stand_after-after.result (omega (arith, c.number-number.ensures.below, c.number-number.ensures.value)) has.admissible
    has.settled has.is_of keeps has.stood c.stand_after-after.ensures in
    let digits = digits_after c.args.class p c.args.turn c.stand_after-after.result image in
    code_stood c.args.class p c.args.turn c.stand_after-after.result c.in_ok-high.high c.number_behind-number.result c.with_side.result image
    (subst (λ pawns. c.in_ok-high.high < king_base pawns) c.has_pawns.ensures c.in_ok-high.ensures.found)
    (subst (λ pawns. king_square pawns c.in_ok-high.high ≡ c.stand_after-after.result.white) c.has_pawns.ensures c.in_ok-high.ensures.is)
    (subst (λ h. Tells (has_pawns (material_of c.args.class)) c.number_behind-number.result (men_among (rest_of c.stand_after-after.result)) h (rest_of c.stand_after-after.result)) c.from.ensures
    (c.number_behind-number.ensures.tells digits.0 digits.1 (has_pawns (material_of c.args.class))))
    (c.with_side.ensures
    ∙ ap (λ side. number_from c.number_behind-number.result (2 ∷ cond (has_target (material_of c.args.class)) (2 ∷ []) []) (side_number side ∷ cond (has_target (material_of c.args.class)) (cond c.args.targeted 1 0 ∷ []) [])) (c.side_after-side.ensures ∙ ap (turned_side (c.args.turn / 8 == 1)) (sym has.side_is))
    ∙ ap (λ d. number_from c.number_behind-number.result (2 ∷ cond (has_target (material_of c.args.class)) (2 ∷ []) []) (side_number (turned_side (c.args.turn / 8 == 1) p.side) ∷ cond (has_target (material_of c.args.class)) (d ∷ []) [])) (passed_digit p.target c.args.targeted has.target_is))
  where
    passed_digit : (o : Option ℕ) (targeted : Bool) → is_some o ≡ targeted → cond targeted 1 0 ≡ target_digit o
    passed_digit o targeted is = grind arith
