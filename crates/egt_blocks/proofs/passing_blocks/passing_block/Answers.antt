use Rattle.std.proofs.Common.{◌<◌, ◌≡◌, ◌∙◌, max, arith, ap, refl, subst, slice_index}
use Rattle.egt_blocks.specs.Prelude.{Reaches, other_side, pawn_of, Side, ShelfMen, at, IsRaised, IsPastKings, left_of}
use Rattle.egt_blocks.specs.Prelude.{stand_left, IsRead}
use Rattle.egt_blocks.proofs.PassingRaising.{all_passing}
use Rattle.egt_blocks.proofs.passing_blocks.passing_block.Goals as goal

pub returns : goal.returns
returns g c = λ told a b a_in b_in.
    let number = g.S.LoneScores.number c.args.source.now in
    let worth = g.S.LoneScores.worth c.args.source.now c.args.column in
    let men = c.args.men.now in
    let side = c.args.side in
    let c_in = subst (λ k. k < 36) c.class.ensures.is (omega (arith, c.number-number.ensures.below, c.number-number.ensures.value)) in
    all_passing number worth c.args.flips men side a b (c.is_pawn_of.ensures.0 c.if-not-is_pawn_of.false) (c.is_pawn_of-else-not-is_pawn_of.ensures.0 c.if-not-is_pawn_of-2.false ∙ ap (λ (s : Side). pawn_of s) c.other.ensures) c_in c.requires.lone c.codes_tell_turned_men.ensures.pawns c.read_left.new.out
    (λ u u_in. subst (λ (m : ShelfMen). IsRead number worth c.args.flips (stand_left c.args.flips (left_of m m.first u)) (other_side side) (slice_index c.read_left.new.out u)) c.men_swapped-swapped.ensures (c.if-not-read_left.ensures refl u u_in))
    c.raise_transposed.new.out c.raise_takes.new.out c.nothing-takes.result c.nothing-takes.ensures b_in (λ u u_in. c.raise_transposed.ensures u b u_in b_in ∙ ap (λ n. max n (at c.raise_takes.new.out b u)) (c.nothing-arrived.ensures u b u_in b_in) ∙ omega arith)
    (λ u u_in. subst (λ (m : ShelfMen). IsRaised (at c.nothing-takes.result b u) (λ v. (v ≡ u) × Reaches (IsPastKings m) m.first b v) (slice_index c.read_left.new.out) (at c.raise_takes.new.out b u)) c.men_swapped-swapped.ensures (c.raise_takes.ensures b u b_in u_in))
    (at c.take_passed.new.out a b) (c.take_passed.ensures a b a_in b_in)
