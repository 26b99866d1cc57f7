use Rattle.std.proofs.Common.{◌∙◌, ap, false, refl, true}
use Rattle.egt_blocks.specs.Prelude.{other_side, pawn_of, Side, at}
use Rattle.egt_blocks.proofs.AdvanceRaising.{after_in_order}
use Rattle.egt_blocks.proofs.LeapRaising.{all_leaps}
use Rattle.egt_blocks.proofs.advance_blocks.leap_block.Goals as goal

pub returns : goal.returns
returns g c = λ told a b a_in b_in.
    let number = g.S.ShelfScores.number c.args.source.now in
    let worth = g.S.ShelfScores.worth c.args.source.now c.args.column in
    let men = c.args.men.now in
    let side = c.args.side in
    all_leaps number worth c.args.first men side a b (c.is_pawn_of.ensures.0 c.if-not-is_pawn_of.false) (c.is_pawn_of-else-not-is_pawn_of.ensures.0 c.if-not-is_pawn_of-2.false ∙ ap (λ (s : Side). pawn_of s) c.other.ensures) c.read_after.new.out a_in
    (λ i u i_in u_in here there.
    after_in_order number worth true c.args.first false men men.last (other_side side) i u (at c.read_after.new.out i u) c.men_after-after.result c.other-2.result c.men_after-after.ensures c.other-2.ensures
    (c.if-not-read_after.ensures refl i u i_in u_in ((c.leap_squares-squares.ensures i i_in).1 here) ((c.leap_squares-squares.ensures u u_in).1 there)))
    (at c.nothing.result a b) (at c.raise_leaps.new.out a b) (c.nothing.ensures a b a_in b_in) (c.raise_leaps.ensures a b a_in b_in)
