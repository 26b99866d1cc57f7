use Rattle.std.specs.Prelude.{not}
use Rattle.egt_blocks.specs.Prelude.{ShelfMen, at, stand_on, IsHomeCode, IsRaisedHome, men_across}
use Rattle.std.proofs.Common.{subst}
use Rattle.egt_blocks.proofs.BlockRaising.{all_squares, raised_max}
use Rattle.egt_blocks.proofs.blocks.raise_across.Goals as goal

pub returns-clause-raised : goal.returns-clause-raised
returns-clause-raised g c = λ told equal a b a_in b_in.
    let number = g.S.ShelfScores.number c.args.source.now in
    let reading = c.args.reading.now in
    let worth = g.S.ShelfScores.worth c.args.source.now reading.column in
    raised_max (at c.args.out.now a b) (λ code. IsHomeCode reading.targeted number code (not reading.flips) (stand_on (men_across c.args.men.now) b a) reading.side) worth (at c.home_block-told.new.out b a) (at c.raise_transposed.new.out a b)
    (subst (λ (m : ShelfMen). IsRaisedHome reading.targeted number worth (not reading.flips) (stand_on m b a) reading.side 0 (at c.home_block-told.new.out b a)) c.men_across.ensures (c.home_block-told.ensures told b a b_in a_in (all_squares b b_in)))
    (c.raise_transposed.ensures a b a_in b_in)
