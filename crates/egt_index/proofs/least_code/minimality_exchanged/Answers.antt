use Rattle.std.proofs.Common.{Bool, true, false, Some, None, arith, refl, inl, inr, subst}
use Rattle.egt_index.specs.Prelude.{Setup, Side, material_of, HasKingsOn, AreHome, has_pawns, HasStand, seen_across}
use Rattle.egt_index.specs.Prelude.{Stand}
use Rattle.egt_index.proofs.Beating.{keeps_with, has_exchanged, turn_beaten, turn_kept}
use Rattle.egt_index.proofs.least_code.minimality_exchanged.Goals.{After-minimality_after-one}
use Rattle.egt_index.proofs.least_code.minimality_exchanged.Goals as goal

-- the kings seen with colours exchanged
across : (c : After-minimality_after-one) (stand : Stand) → HasKingsOn c.args.white c.args.black stand → HasKingsOn c.args.black c.args.white (seen_across stand)
across c stand on = (on.1, on.0)

home : (c : After-minimality_after-one) (stand : Stand) → HasKingsOn c.args.white c.args.black stand → AreHome (has_pawns (material_of c.args.class)) true (seen_across stand).white c.home-first.result.0 c.home-first.result.1
home c stand on = grind arith

there : (c : After-minimality_after-one) (stand : Stand) (p : Setup) (side : Side) (targeted : Bool) → HasStand c.args.class false stand side targeted p → HasStand c.args.class true (seen_across stand) side targeted p
there c stand p side targeted has =
    has_exchanged c.facts.ensures c.args.class false stand (seen_across stand) side targeted p (omega (arith, c.number-number.ensures.below, c.number-number.ensures.value)) c.requires refl refl refl refl has

pub returns-in-Some-clause-beats : goal.returns-in-Some-clause-beats
returns-in-Some-clause-beats c = λ h stand on p side targeted code has s.
    let before = c.before.before.before in
    let seen = seen_across stand in
    let are : AreHome (has_pawns (material_of c.args.class)) true seen.white c.home-first.result.0 (Some c.in-Some.second) =
    subst (AreHome (has_pawns (material_of c.args.class)) true seen.white c.home-first.result.0) c.in-Some.is (home before stand on) in
    let there = there before stand p side targeted has in
    let across = across before stand on in
    elim (c.both.ensures.beaten h) [
      | inl one ↦ turn_beaten c.args.class true seen c.home-first.result.0 p side targeted code are.one are.brings (c.minimality_after-one.ensures.beats one seen (across, tt)) there s.spells
      | inr two ↦ turn_beaten c.args.class true seen c.in-Some.second p side targeted code are.other are.other_brings (c.minimality_after.ensures.beats two seen (across, tt)) there s.spells
    ]

pub returns-in-Some-clause-keeps : goal.returns-in-Some-clause-keeps
returns-in-Some-clause-keeps c = λ h stand on p side targeted code has s.
    let before = c.before.before.before in
    let seen = seen_across stand in
    let are : AreHome (has_pawns (material_of c.args.class)) true seen.white c.home-first.result.0 (Some c.in-Some.second) =
    subst (AreHome (has_pawns (material_of c.args.class)) true seen.white c.home-first.result.0) c.in-Some.is (home before stand on) in
    let there = there before stand p side targeted has in
    let across = across before stand on in
    let least = c.both.ensures.least h in
    keeps_with c.facts.ensures c.args.class p true seen.white c.home-first.result.0 (Some c.in-Some.second) code has.admissible there.is_of there.stood.all.1 are
    (turn_kept c.args.class true seen c.home-first.result.0 p side targeted code are.one (c.minimality_after-one.ensures.keeps least.0 seen (across, tt)) there s.spells)
    (turn_kept c.args.class true seen c.in-Some.second p side targeted code are.other (c.minimality_after.ensures.keeps least.1 seen (across, tt)) there s.spells)

pub returns-in-None-clause-beats : goal.returns-in-None-clause-beats
returns-in-None-clause-beats c = λ h stand on p side targeted code has s.
    let seen = seen_across stand in
    let are = home c.before stand on in
    turn_beaten c.args.class true seen c.home-first.result.0 p side targeted code are.one are.brings (c.minimality_after-one.ensures.beats h seen (across c.before stand on, tt)) (there c.before stand p side targeted has) s.spells

pub returns-in-None-clause-keeps : goal.returns-in-None-clause-keeps
returns-in-None-clause-keeps c = λ h stand on p side targeted code has s.
    let seen = seen_across stand in
    let are : AreHome (has_pawns (material_of c.args.class)) true seen.white c.home-first.result.0 None =
    subst (AreHome (has_pawns (material_of c.args.class)) true seen.white c.home-first.result.0) c.in-None.is (home c.before stand on) in
    let there = there c.before stand p side targeted has in
    keeps_with c.facts.ensures c.args.class p true seen.white c.home-first.result.0 None code has.admissible there.is_of there.stood.all.1 are
    (turn_kept c.args.class true seen c.home-first.result.0 p side targeted code are.one (c.minimality_after-one.ensures.keeps h seen (across c.before stand on, tt)) there s.spells) tt
