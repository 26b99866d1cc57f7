use Rattle.std.proofs.Common.{◌≡◌, ◌∙◌, ap, arith, cond, eqb, max, refl, subst, slice_index}
use Rattle.egt_blocks.specs.Prelude.{Reaches, rank_of, ShelfMen, at, IsRaised, IsPastKings}
use Rattle.egt_blocks.proofs.AdvanceRaising.{all_captures}
use Rattle.egt_blocks.proofs.advance_blocks.promoting_block.Goals as goal

pub returns : goal.returns
returns g c = λ told a b a_in b_in.
    let out = at c.raise_transposed.new.out a b in
    let takes = at c.raise_takes.new.out b a in
    let raised =
    subst (λ (m : ShelfMen). IsRaised (at c.nothing-takes.result b a) (λ u. (u ≡ a) × Reaches (IsPastKings m) m.first b u) (slice_index c.kept-arrived.result) takes) c.men_swapped.ensures (c.raise_takes.ensures b a b_in a_in) in
    let is : out ≡ takes = c.raise_transposed.ensures a b a_in b_in ∙ ap (λ n. max n takes) (c.nothing.ensures a b a_in b_in) ∙ omega arith in
    all_captures (g.S.LoneScores.number c.args.source.now) (g.S.LoneScores.worth c.args.source.now c.args.column) c.args.flips c.args.men.now c.args.man.side c.args.man.kind a b c.requires.officer (c.is_pawn_of.ensures.0 c.if-not-is_pawn_of.false) (c.is_of.ensures.0 c.if-not-is_of.false ∙ c.other.ensures) c.rank_squares.result.bits
    (λ u u_in. c.rank_squares.ensures u u_in ∙ ap (λ r. cond (eqb (rank_of u) r) 1 0) c.last_rank.ensures) c.read_left.new.out c.kept-arrived.result c.kept-arrived.ensures (c.if-not-read_left.ensures refl) a_in
    (at c.nothing-takes.result b a) takes (c.nothing-takes.ensures b a b_in a_in) raised out is
