use Rattle.std.proofs.Common.{List, ℕ, ap, refl}
use Rattle.egt_blocks.specs.Prelude.{at}
use Rattle.egt_blocks.proofs.BlockRaising.{read_settled}
use Rattle.egt_blocks.proofs.blocks.read_block.Goals as goal

pub returns : goal.returns
returns g c = λ told a b a_in b_in here.
    let reading = c.args.reading.now in
    read_settled reading.targeted (g.S.ShelfScores.number c.args.source.now) (g.S.ShelfScores.worth c.args.source.now reading.column) c.args.men.now reading.flips reading.side c.rows_read.result c.home_block.new.out (c.if-not-home_block.ensures refl)
    c.are_equal-equal.result c.are_equal-equal.ensures c.rows_read.ensures.all a b a_in b_in (c.rows_read.ensures.rows a here a_in) (at c.raise_order.new.out a b) (c.raise_order.ensures a b a_in b_in)
    (at c.raise_across.new.out a b) (λ apart. ap (λ (block : List (List ℕ)). at block a b) (c.raise_across.ensures.same apart)) (λ equal. c.raise_across.ensures.raised told equal a b a_in b_in)
