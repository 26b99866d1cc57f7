use Rattle.std.proofs.Common.{◌%◌, Some, None, sym, subst}
use Rattle.egt_index.specs.Prelude.{material_of, AreHome, LeastWith, has_pawns, HasStand}
use Rattle.egt_index.proofs.LeastTurn.{keeps_play, least_of_one, least_of_two, none_away}
use Rattle.egt_index.proofs.indexing.least_with.Goals as goal

pub returns-in-Some : goal.returns-in-Some
returns-in-Some c = λ p has.
    let home : AreHome (has_pawns (material_of c.args.class)) c.args.flips c.args.stand.now.white c.home-first.result.0 (Some c.in-Some.second) =
    subst (AreHome (has_pawns (material_of c.args.class)) c.args.flips c.args.stand.now.white c.home-first.result.0) c.in-Some.is
    (subst (λ pawns. AreHome pawns c.args.flips c.args.stand.now.white c.home-first.result.0 c.home-first.result.1) c.has_pawns.ensures c.home-first.ensures) in
    subst (LeastWith c.args.class p c.args.flips) (sym c.lesser.ensures)
    (least_of_two c.facts.ensures c.args.class p c.args.flips c.home-first.result.0 c.in-Some.second c.code_after-code.result c.code_after-other.result home.one.below home.other.below
    (c.code_after-code.ensures p (subst (λ f. HasStand c.args.class f c.args.stand.now c.args.side c.args.targeted p) (sym home.one.flips_is) has) (keeps_play c.args.class c.args.flips p (c.home-first.result.0 % 8) has.admissible has.is_of home.one.keeps))
    (c.code_after-other.ensures p (subst (λ f. HasStand c.args.class f c.args.stand.now c.args.side c.args.targeted p) (sym home.other.flips_is) has) (keeps_play c.args.class c.args.flips p (c.in-Some.second % 8) has.admissible has.is_of home.other.keeps))
    (λ t t_in flips_is apart other. none_away c.facts.ensures c.args.class p c.args.flips c.args.stand.now.white c.home-first.result.0 (Some c.in-Some.second) has.admissible has.is_of
    has.stood.all.1 home t t_in flips_is apart other))

pub returns-in-None : goal.returns-in-None
returns-in-None c = λ p has.
    let home : AreHome (has_pawns (material_of c.args.class)) c.args.flips c.args.stand.now.white c.home-first.result.0 None =
    subst (AreHome (has_pawns (material_of c.args.class)) c.args.flips c.args.stand.now.white c.home-first.result.0) c.in-None.is
    (subst (λ pawns. AreHome pawns c.args.flips c.args.stand.now.white c.home-first.result.0 c.home-first.result.1) c.has_pawns.ensures c.home-first.ensures) in
    least_of_one c.facts.ensures c.args.class p c.args.flips c.home-first.result.0 c.code_after-code.result home.one.below
    (c.code_after-code.ensures p (subst (λ f. HasStand c.args.class f c.args.stand.now c.args.side c.args.targeted p) (sym home.one.flips_is) has) (keeps_play c.args.class c.args.flips p (c.home-first.result.0 % 8) has.admissible has.is_of home.one.keeps))
    (λ t t_in flips_is apart. none_away c.facts.ensures c.args.class p c.args.flips c.args.stand.now.white c.home-first.result.0 None has.admissible has.is_of
    has.stood.all.1 home t t_in flips_is apart tt)
