use Rattle.std.proofs.Common.{◌/◌, ◌%◌, eqb, max, arith, ap, ◌∙◌, subst, slice_index, false}
use Rattle.egt_blocks.specs.Prelude.{turned_side, turned_square, Side, lone_stand, TellsMen, IsRaised, IsCodeAfter}
use Rattle.egt_blocks.proofs.BlockRaising.{raised_max, turned_in}
use Rattle.egt_blocks.proofs.lone_rows.raise_lone.Goals as goal

pub returns : goal.returns
returns g c = λ told s s_in.
    let number = g.S.LoneScores.number c.args.source.now in
    let worth = g.S.LoneScores.worth c.args.source.now c.args.column in
    let man = c.args.men.now.man in
    let n = c.args.turn % 8 in
    let flips = eqb (c.args.turn / 8) 1 in
    let at = turned_square n flips s in
    let row = slice_index c.lone_row-row.result at in
    let told_at = c.lone_row-row.ensures at (turned_in flips n s (omega arith) s_in) in
    let codes =
    subst (λ w. IsRaised 0 (λ code. TellsMen false number code (lone_stand w (turned_square n flips c.args.men.now.black) man at) (turned_side flips c.args.side)) worth row) c.turned_square-white.ensures
    (subst (λ b. IsRaised 0 (λ code. TellsMen false number code (lone_stand c.turned_square-white.result b man at) (turned_side flips c.args.side)) worth row) c.turned_square-black.ensures
    (subst (λ (side : Side). IsRaised 0 (λ code. TellsMen false number code (lone_stand c.turned_square-white.result c.turned_square-black.result man at) side) worth row) c.side_after.ensures told_at)) in
    raised_max (slice_index c.args.out.now s) (λ code. IsCodeAfter false number c.args.turn code (lone_stand c.args.men.now.white c.args.men.now.black man s) c.args.side) worth row (slice_index c.greater.result s) codes
    (c.greater.ensures s s_in ∙ ap (λ v. max (slice_index c.args.out.now s) v) (c.turned.ensures s s_in))
