use Rattle.std.proofs.Common.{◌≡◌, ◌⊎◌, Some, None, sym, ap, ◌∙◌, inl, subst}
use Rattle.egt_unmoves.specs.Prelude.{bit_at, other_side, pawn_of, ahead, Stands}
use Rattle.egt_unmoves.proofs.FiveMen.{target_found, no_target_before}
use Rattle.egt_unmoves.proofs.targets.target_before.Goals as goal
use Rattle.egt_board.proofs.Bits.{not_both}

pub returns-then-has_advanced : goal.returns-then-has_advanced
returns-then-has_advanced c = λ b m comes.
    let q = c.args.position.now in
    let stands : Stands q.men c.in-Some.square (pawn_of c.side-mover.result) = (c.has_advanced.ensures.0 c.if-has_advanced.true).1 in
    let found = target_found b q m comes c.in-Some.square (subst (λ side. Stands q.men c.in-Some.square (pawn_of side)) c.side-mover.ensures.side stands) in
    let same : ahead (other_side q.side) c.in-Some.square ≡ c.ahead.result =
    sym (c.ahead.ensures ∙ ap (λ side. ahead side c.in-Some.square) (c.other.ensures ∙ ap other_side c.side-mover.ensures.side)) in
    subst (λ t. (b.target ≡ None) ⊎ (b.target ≡ Some t)) same found

pub returns : goal.returns
returns c = λ b m comes.
    inl (no_target_before b c.args.position.now m comes (λ s stands rank.
    not_both (bit_at c.loop-square.rest.bits s) (c.in_default.ensures.empty s)
    (c.loop-square.invariant s (rw c.side-mover.ensures.side stands) (rw c.side-mover.ensures.side rank))))
