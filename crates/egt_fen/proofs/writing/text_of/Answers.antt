use Rattle.std.proofs.Common.{◌≡◌, ℕ, List, [], ◌∷◌, ◌++◌, sym, ap, ◌∙◌, subst}
use Rattle.egt_fen.specs.Prelude.{append_assoc, decimal, canonical, placement_text, side_text, target_text, Spells}
use Rattle.egt_fen.proofs.Round.{written_spells}
use Rattle.egt_fen.proofs.writing.text_of.Goals as goal

-- the text as it grows is the text by its fields
joined : (p t h f : List ℕ) (x : ℕ) → (((((((p ++ 32 ∷ []) ++ x ∷ []) ++ (32 ∷ 45 ∷ 32 ∷ [])) ++ t) ++ 32 ∷ []) ++ h) ++ 32 ∷ []) ++ f
    ≡ p ++ 32 ∷ x ∷ 32 ∷ 45 ∷ 32 ∷ (t ++ 32 ∷ (h ++ 32 ∷ f))
joined p t h f x = simp append_assoc

pub returns-clause-canonical : goal.returns-clause-canonical
unfolding canonical
returns-clause-canonical c =
    let fen = c.args.fen.now in
    let placement = placement_text fen.position.men in
    let board = ap placement_text c.board.ensures in
    let half = c.as_bytes.result.now in
    let full = c.as_bytes-2.result.now in
    let side = ap side_text (sym c.side.ensures.side) ∙ c.side_letter.ensures in
    c.in_ok-extend_from_slice-3.ensures.items
    ∙ ap (λ xs. xs ++ full) (c.in_ok-push-4.ensures.items
    ∙ ap (λ xs. xs ++ 32 ∷ []) (c.in_ok-extend_from_slice-2.ensures.items
    ∙ ap (λ xs. xs ++ half) (c.in_ok-push-3.ensures.items
    ∙ ap (λ xs. xs ++ 32 ∷ []) (c.in_ok-push_target.ensures
    ∙ ap (λ xs. xs ++ target_text c.target.result) (c.in_ok-extend_from_slice.ensures.items
    ∙ ap (λ xs. xs ++ 32 ∷ 45 ∷ 32 ∷ []) (c.in_ok-push-2.ensures.items
    ∙ ap (λ xs. xs ++ c.side_letter.result ∷ []) (c.in_ok-push.ensures.items
    ∙ ap (λ xs. xs ++ 32 ∷ []) (c.in_ok-push_placement.ensures
    ∙ ap (λ xs. c.in_ok-text.text.items ++ xs) board
    ∙ ap (λ xs. xs ++ placement) c.in_ok-text.ensures.items))))))))
    ∙ joined placement (target_text c.target.result) half full c.side_letter.result
    ∙ ap (λ s. placement ++ 32 ∷ (s ++ 32 ∷ 45 ∷ 32 ∷ (target_text c.target.result ++ 32 ∷ (half ++ 32 ∷ full)))) (sym side)
    ∙ ap (λ t. placement ++ 32 ∷ (side_text fen.position.side ++ 32 ∷ 45 ∷ 32 ∷ (target_text t ++ 32 ∷ (half ++ 32 ∷ full)))) c.target.ensures
    ∙ ap (λ n. placement ++ 32 ∷ (side_text fen.position.side ++ 32 ∷ 45 ∷ 32 ∷ (target_text fen.position.target ++ 32 ∷ (n ++ 32 ∷ full)))) (c.as_bytes.ensures.value ∙ c.format.ensures.text)
    ∙ ap (λ n. placement ++ 32 ∷ (side_text fen.position.side ++ 32 ∷ 45 ∷ 32 ∷ (target_text fen.position.target ++ 32 ∷ (decimal fen.halfmove ++ 32 ∷ n)))) (c.as_bytes-2.ensures.value ∙ c.format-2.ensures.text)

pub returns-clause-spells : goal.returns-clause-spells
returns-clause-spells c =
    subst (λ (text : List ℕ). Spells text c.args.fen.now) (sym (returns-clause-canonical c)) (written_spells c.args.fen.now c.side.ensures.admissible)
