use Rattle.std.proofs.Common.{◌<◌, Bool, false, Option, arith, get_or, refl, replicate, ap, ◌∙◌, subst, slice_index}
use Rattle.egt_blocks.specs.Prelude.{get_or-replicate, material_of, AreHome, lone_stand, has_pawns}
use Rattle.egt_blocks.proofs.BlockRaising.{home_by_one, home_by_two}
use Rattle.egt_blocks.proofs.LoneRead.{lone_read}
use Rattle.egt_blocks.proofs.lone_rows.read_lone.Goals as goal

pub returns-in-Some : goal.returns-in-Some
returns-in-Some g c = λ told s s_in.
    let number = g.S.LoneScores.number c.args.source.now in
    let worth = g.S.LoneScores.worth c.args.source.now c.args.column in
    let pawns = c.has_pawns.ensures ∙ ap (λ k. has_pawns (material_of k)) c.class-2.ensures.is in
    let home = subst (λ (o : Option _). AreHome (has_pawns (material_of number)) c.args.flips c.args.men.now.white c.home-first.result.0 o) c.in-Some.is (subst (λ (p : Bool). AreHome p c.args.flips c.args.men.now.white c.home-first.result.0 c.home-first.result.1) pawns c.home-first.ensures) in
    lone_read number worth c.args.men.now.man c.args.men.now.white c.args.men.now.black c.args.flips c.args.side (subst (λ k. k < 36) c.class.ensures.is (omega (arith, c.number-number.ensures.below, c.number-number.ensures.value))) c.requires.man s
    (slice_index c.raise_lone-in-Some.new.out s) (get_or (replicate 64 0) s 0) (get_or-replicate 64 s 0 0 s_in)
    (home_by_two false number c.args.flips (lone_stand c.args.men.now.white c.args.men.now.black c.args.men.now.man s) c.args.side c.home-first.result.0 c.in-Some.second home (get_or (replicate 64 0) s 0) (slice_index c.raise_lone.new.out s) (slice_index c.raise_lone-in-Some.new.out s) worth
    (c.if-not-raise_lone.ensures refl s s_in) (c.raise_lone-in-Some.ensures told s s_in))

pub returns-in-None : goal.returns-in-None
returns-in-None g c = λ told s s_in.
    let number = g.S.LoneScores.number c.args.source.now in
    let worth = g.S.LoneScores.worth c.args.source.now c.args.column in
    let pawns = c.has_pawns.ensures ∙ ap (λ k. has_pawns (material_of k)) c.class-2.ensures.is in
    let home = subst (λ (o : Option _). AreHome (has_pawns (material_of number)) c.args.flips c.args.men.now.white c.home-first.result.0 o) c.in-None.is (subst (λ (p : Bool). AreHome p c.args.flips c.args.men.now.white c.home-first.result.0 c.home-first.result.1) pawns c.home-first.ensures) in
    lone_read number worth c.args.men.now.man c.args.men.now.white c.args.men.now.black c.args.flips c.args.side (subst (λ k. k < 36) c.class.ensures.is (omega (arith, c.number-number.ensures.below, c.number-number.ensures.value))) c.requires.man s
    (slice_index c.raise_lone.new.out s) (get_or (replicate 64 0) s 0) (get_or-replicate 64 s 0 0 s_in)
    (home_by_one false number c.args.flips (lone_stand c.args.men.now.white c.args.men.now.black c.args.men.now.man s) c.args.side c.home-first.result.0 home (get_or (replicate 64 0) s 0) (slice_index c.raise_lone.new.out s) worth (c.if-not-raise_lone.ensures refl s s_in))
