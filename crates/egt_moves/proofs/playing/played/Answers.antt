use Rattle.std.proofs.Common.{◌∙◌, sym, ap, subst}
use Rattle.egt_moves.specs.Prelude.{IsAdmissible, other_side, men_after, passed}
use Rattle.egt_moves.proofs.Admissible.{admissible_after}
use Rattle.egt_moves.proofs.playing.played.Goals as goal

pub with_kings-requires-clause-admissible : goal.with_kings-requires-clause-admissible
with_kings-requires-clause-admissible c =
    let p = c.args.position.now in
    let man = c.args.man in
    let m = c.args.chess_move.now in
    rw (c.moved-board.ensures, c.other.ensures, c.passed-target.ensures)
    (subst (λ side. IsAdmissible (record { men = men_after p man m; side = other_side side; target = passed man m.from m.to })) (sym c.requires.mine)
    (admissible_after p man m c.requires.stands c.requires.mine c.requires.goes c.requires.promotion c.requires.admissible c.requires.safe))

pub returns : goal.returns
returns c =
    c.with_kings.ensures
    ∙ (λ i. record { men = c.moved-board.ensures i; side = (c.other.ensures ∙ ap other_side c.requires.mine) i; target = c.passed-target.ensures i })
