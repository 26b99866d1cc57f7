use Rattle.std.proofs.Common.{arith, subst}
use Rattle.egt_index.specs.Prelude.{material_of, AreHome, has_pawns}
use Rattle.egt_index.proofs.VoidByKings.{nearest_of_one, nearest_of_two}
use Rattle.egt_index.proofs.void_by_kings.home_kings.Goals as goal

pub returns-in-Some : goal.returns-in-Some
returns-in-Some c =
    rw (c.min.ensures, c.kings_after.ensures)
    (nearest_of_two c.facts.ensures c.args.class c.args.flips c.args.white c.args.black c.home-first.result.0 c.in-Some.turn c.kings_after-kings.result (omega (arith, c.number-number.ensures.below, c.number-number.ensures.value))
    (subst (AreHome (has_pawns (material_of c.args.class)) c.args.flips c.args.white c.home-first.result.0) c.in-Some.is
    (subst (λ pawns. AreHome pawns c.args.flips c.args.white c.home-first.result.0 c.home-first.result.1) c.has_pawns.ensures c.home-first.ensures)) c.kings_after-kings.ensures)

pub returns-in-None : goal.returns-in-None
returns-in-None c =
    nearest_of_one c.facts.ensures c.args.class c.args.flips c.args.white c.args.black c.home-first.result.0 c.kings_after-kings.result (omega (arith, c.number-number.ensures.below, c.number-number.ensures.value))
    (subst (AreHome (has_pawns (material_of c.args.class)) c.args.flips c.args.white c.home-first.result.0) c.in-None.is
    (subst (λ pawns. AreHome pawns c.args.flips c.args.white c.home-first.result.0 c.home-first.result.1) c.has_pawns.ensures c.home-first.ensures)) c.kings_after-kings.ensures
