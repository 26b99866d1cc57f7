use Rattle.std.proofs.Common.{◌≢◌, ◌∙◌, None, ap, false, refl, sym}
use Rattle.egt_blocks.specs.Prelude.{false≢true, other_side, pawn_of, Side, at}
use Rattle.egt_blocks.proofs.AdvanceRaising.{all_advances}
use Rattle.egt_blocks.proofs.LeapRaising.{all_steps, steps_alone}
use Rattle.egt_blocks.proofs.advance_blocks.step_block.Goals as goal

pub returns-then-is_pawn_of : goal.returns-then-is_pawn_of
returns-then-is_pawn_of g c = λ a b a_in b_in.
    let theirs = c.is_pawn_of-2.ensures.0 c.if-is_pawn_of.true ∙ ap (λ (s : Side). pawn_of s) c.other.ensures in
    all_steps (g.S.ShelfScores.number c.args.source.now) (g.S.ShelfScores.worth c.args.source.now c.args.column) c.args.first c.args.men.now c.args.side a b (c.is_pawn_of.ensures.0 c.if-not-is_pawn_of.false) theirs c.args.still.now a_in c.requires c.arrivals-arrivals.result.bits c.arrivals-arrivals.ensures
    (at c.nothing.result a b) (at c.raise_steps.new.out a b) (at c.raise_leaps.new.out a b) (c.nothing.ensures a b a_in b_in) (c.raise_steps.ensures a b a_in b_in) (c.raise_leaps.ensures a b a_in b_in)

pub returns-else-is_pawn_of : goal.returns-else-is_pawn_of
returns-else-is_pawn_of g c = λ a b a_in b_in.
    let number = g.S.ShelfScores.number c.args.source.now in
    let worth = g.S.ShelfScores.worth c.args.source.now c.args.column in
    let men = c.args.men.now in
    let side = c.args.side in
    let other : men.first ≢ pawn_of (other_side side) = λ is. false≢true (sym c.if-is_pawn_of.false ∙ c.is_pawn_of-2.ensures.1 (is ∙ ap (λ (s : Side). pawn_of s) (sym c.other.ensures))) in
    let raised = at c.raise_advances.new.out a b in
    steps_alone number worth c.args.first men side a b other raised
    (all_advances number worth c.args.first false men side None a b (c.is_pawn_of.ensures.0 c.if-not-is_pawn_of.false) c.arrivals-arrivals.result.bits c.arrivals-arrivals.ensures men.last refl c.args.still.now (λ i u i_in u_in arrives. c.requires i u i_in u_in) a_in
    (at c.nothing.result a b) raised (c.nothing.ensures a b a_in b_in) (c.raise_advances.ensures a b a_in b_in))
