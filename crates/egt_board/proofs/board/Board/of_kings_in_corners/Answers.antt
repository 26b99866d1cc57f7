use Rattle.std.proofs.Common.{◌≡◌, [], ◌∷◌, Some, None, ◌∙◌, subst, sym}
use Rattle.egt_board.specs.Prelude.{White, Black, king_of, Slot, corners}
use Rattle.egt_board.proofs.Slots.{AreShown, shown_corners, placed_of, kept_of}
use Rattle.egt_board.proofs.board.Board.of_kings_in_corners.Goals as goal

shown : (c : goal.After-filled-2) → AreShown (c.filled.result ∷ c.filled-2.result ∷ None ∷ None ∷ []) corners
shown c =
    let white : c.filled.result ≡ Some (0, king_of White) = c.filled.ensures ∙ (λ i. Some (c.at.ensures i, c.king.ensures i)) in
    let black : c.filled-2.result ≡ Some (63, king_of Black) = c.filled-2.ensures ∙ (λ i. Some (c.at-2.ensures i, c.king-2.ensures i)) in
    subst (λ (x : Slot). AreShown (x ∷ c.filled-2.result ∷ None ∷ None ∷ []) corners) (sym white)
    (subst (λ (x : Slot). AreShown (Some (0, king_of White) ∷ x ∷ None ∷ None ∷ []) corners) (sym black) shown_corners)

pub invariant_of-result : goal.invariant_of-result
invariant_of-result c = kept_of _ _ (shown c)

pub returns : goal.returns
returns c = placed_of _ _ (shown c)
