use Rattle.std.proofs.Common.{◌≡◌, ◌+◌, ◌*◌, ◌++◌, ◌∷◌, [], drop, arith, sym, ap, ◌∙◌}
use Rattle.egt_fen.specs.Prelude.{on_ok_weaker, gap_text, squares_text, squares_of}
use Rattle.std.specs.FinMap as placement
use Rattle.egt_fen.proofs.Written.{squares_text-free, squares_text-man, squares_text-end}
use Rattle.egt_fen.proofs.board_text.push_rank.Goals as goal
use Rattle.egt_fen.proofs.board_text.push_rank.Goals.{in-None, in-Some+in_ok-push_gap-in-Some+in_ok-push-in-Some}

pub loop-file-preserved : goal.loop-file-preserved
loop-file-preserved c =
    let men = c.args.board.now in
    let file = c.loop-file.file in
    let gap = c.loop-file.gap in
    let text = c.loop-file.text.items in
    let rest = drop (file + 1) (squares_of men c.args.rank) in
    let there : c.unwrap-square.result ≡ 8 * c.args.rank + file = rw c.unwrap-square.ensures at c.new.ensures.value in
    let at = sym (c.at.ensures ∙ ap (placement.get men) there) in
    elim c.match-at.branch [
      | in-None w ↦ record {
        few = omega arith;
        written =
            ap (λ g. c.match-at.text.items ++ squares_text g rest) w.gap-is
            ∙ ap (λ t. t.items ++ squares_text (gap + 1) rest) w.text-is
            ∙ sym (squares_text-free text men c.args.rank file gap (omega arith) (at ∙ w.in-None.is))
            ∙ c.loop-file.invariant.written;
      }
      | in-Some+in_ok-push_gap-in-Some+in_ok-push-in-Some w ↦ record {
        few = omega arith;
        written =
            ap (λ g. c.match-at.text.items ++ squares_text g rest) w.gap-is
            ∙ ap (λ t. t.items ++ squares_text 0 rest) w.text-is
            ∙ ap (λ xs. xs ++ squares_text 0 rest) (w.in_ok-push-in-Some.ensures.items
            ∙ ap (λ xs. xs ++ w.letter_of.result ∷ []) w.in_ok-push_gap-in-Some.ensures
            ∙ ap (λ l. (text ++ gap_text gap) ++ l ∷ []) w.letter_of.ensures)
            ∙ sym (squares_text-man text men w.in-Some.man c.args.rank file gap (omega arith) (at ∙ w.in-Some.is))
            ∙ c.loop-file.invariant.written;
      }
    ]

pub returns : goal.returns
returns c = grind (arith, on_ok_weaker, squares_text-end, c.loop-file.invariant.written, c.push_gap-2.ensures)
