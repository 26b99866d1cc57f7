use Rattle.std.proofs.Common.{◌≡◌, false, Some, ap, refl, sym}
use Rattle.egt_blocks.specs.Prelude.{other_side, Man, at, arriving}
use Rattle.egt_blocks.proofs.AdvanceRaising.{after_in_order, all_advances}
use Rattle.egt_blocks.proofs.BlockRaising.{all_squares}
use Rattle.egt_blocks.proofs.advance_blocks.promotion_block.Goals as goal

pub returns : goal.returns
returns g c = λ told a b a_in b_in.
    let number = g.S.ShelfScores.number c.args.source.now in
    let worth = g.S.ShelfScores.worth c.args.source.now c.args.column in
    let before = c.args.before in
    let flips = c.args.flips in
    let men = c.args.men.now in
    let man : Man = c.args.man in
    let scores = c.read_after.new.out in
    let mine = c.is_pawn_of.ensures.0 c.if-not-is_pawn_of.false in
    let man_is : man ≡ arriving men.last (Some man.kind) = ap (λ (x : Man). record { side = x.side; kind = man.kind }) (sym mine) in
    all_advances number worth before flips men man.side (Some man.kind) a b mine c.arrivals-arrivals.result.bits c.arrivals-arrivals.ensures man man_is scores
    (λ i u i_in u_in arrives.
    after_in_order number worth false before flips men man (other_side man.side) i u (at scores i u) c.men_after-after.result c.other.result c.men_after-after.ensures c.other.ensures
    (c.if-not-read_after.ensures refl i u i_in u_in (all_squares i i_in) arrives)) a_in
    (at c.nothing.result a b) (at c.raise_advances.new.out a b) (c.nothing.ensures a b a_in b_in) (c.raise_advances.ensures a b a_in b_in)
