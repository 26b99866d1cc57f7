use Rattle.std.proofs.Common.{◌≡◌, ℕ, Bool, Option, refl, ap, ◌∙◌, subst}
use Rattle.egt_blocks.specs.Prelude.{material_of, AreHome, has_pawns, at, stand_on, IsCodeAfter}
use Rattle.egt_blocks.proofs.BlockRaising.{home_by_one, home_by_two, raised_max}
use Rattle.egt_blocks.proofs.blocks.home_block.Goals as goal

-- the turns of the table's class
turns_home : {c k : ℕ} {pawns flips : Bool} {white first : ℕ} {second turn : Option ℕ} → pawns ≡ has_pawns (material_of c) → c ≡ k → second ≡ turn → AreHome pawns flips white first second → AreHome (has_pawns (material_of k)) flips white first turn
turns_home {c} {k} {pawns} {flips} {white} {first} {second} {turn} is same told home =
    subst (λ (o : Option ℕ). AreHome (has_pawns (material_of k)) flips white first o) told (subst (λ (p : Bool). AreHome p flips white first second) (is ∙ ap (λ n. has_pawns (material_of n)) same) home)

pub turned_block-requires-clause-keeps : goal.turned_block-requires-clause-keeps
turned_block-requires-clause-keeps g c = (turns_home c.has_pawns.ensures c.class.ensures.is refl c.home-first.ensures).one.keeps

pub turned_block-told-requires-clause-keeps : goal.turned_block-told-requires-clause-keeps
turned_block-told-requires-clause-keeps g c = (turns_home c.has_pawns.ensures c.class.ensures.is c.in-Some.is c.home-first.ensures).other.keeps

pub returns-in-Some : goal.returns-in-Some
returns-in-Some g c = λ told a b a_in b_in here.
    let number = g.S.ShelfScores.number c.args.source.now in
    let worth = g.S.ShelfScores.worth c.args.source.now c.args.reading.now.column in
    let stand = stand_on c.args.men.now a b in
    let first = at c.turned_block.new.out a b in
    let both = at c.raise_to_max.new.out a b in
    home_by_two c.args.reading.now.targeted number c.args.reading.now.flips stand c.args.reading.now.side c.home-first.result.0 c.in-Some.second (turns_home c.has_pawns.ensures c.class.ensures.is c.in-Some.is c.home-first.ensures) 0 first both worth
    (c.if-not-turned_block.ensures refl a b a_in b_in here)
    (raised_max first (λ code. IsCodeAfter c.args.reading.now.targeted number c.in-Some.second code stand c.args.reading.now.side) worth (at c.turned_block-told.new.out a b) both (c.turned_block-told.ensures told a b a_in b_in here) (c.raise_to_max.ensures a b a_in b_in))

pub returns-in-None : goal.returns-in-None
returns-in-None g c = λ told a b a_in b_in here.
    let number = g.S.ShelfScores.number c.args.source.now in
    let worth = g.S.ShelfScores.worth c.args.source.now c.args.reading.now.column in
    home_by_one c.args.reading.now.targeted number c.args.reading.now.flips (stand_on c.args.men.now a b) c.args.reading.now.side c.home-first.result.0 (turns_home c.has_pawns.ensures c.class.ensures.is c.in-None.is c.home-first.ensures)
    0 (at c.turned_block.new.out a b) worth (c.if-not-turned_block.ensures refl a b a_in b_in here)
