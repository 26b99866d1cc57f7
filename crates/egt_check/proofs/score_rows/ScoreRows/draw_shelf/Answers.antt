use Rattle.std.proofs.Common.{◌≡◌, ◌<◌, ◌∙◌, ◌+◌, ◌*◌, ℕ, ap, arith, refl, sym, subst, slice_index}
use Rattle.egt_check.specs.Prelude.{White, Black, IsVoid, code_of, places, AreIndexed, IsShelf, number_in, CodeScores}
use Rattle.egt_check.proofs.ScoresDrawn.{IsDrawnFrom, both_drawn, by_side, drawn_from, drawn_side, still_128, still_few, still_void}
use Rattle.egt_check.proofs.score_rows.ScoreRows.draw_shelf.Goals as goal

pub returns : goal.returns
returns c =
    let k : ℕ = c.args.self.now.class in
    let old : CodeScores = c.args.self.now in
    let mid : CodeScores = c.put.new.self in
    let new : CodeScores = c.put-2.new.self in
    let men = c.in-Some.men in
    let shelf = c.args.shelf in
    let same : c.self.inside.class ≡ k = ap (λ (v : CodeScores). v.class) c.self.view_is in
    let is = subst (λ n. IsShelf n shelf men) same c.in-Some.ensures.shelf in
    let white = subst (λ n. AreIndexed n (shelf * (2 * places n)) c.indexes_of-indexes.result.white) same c.indexes_of-indexes.ensures.white in
    let black = subst (λ n. AreIndexed n (shelf * (2 * places n) + 1) c.indexes_of-indexes.result.black) (same ∙ sym c.put.ensures.class) c.indexes_of-indexes.ensures.black in
    let first : IsDrawnFrom k old mid = drawn_from k (shelf * (2 * places k)) c.indexes_of-indexes.result.white shelf men White c.squares_of-white.result old mid c.put.ensures.class (omega arith) is.len white c.squares_of-white.ensures.digits c.put.ensures.put c.put.ensures.others in
    let len = subst (λ n. IsShelf n shelf men) (sym c.put.ensures.class) is in
    let second : IsDrawnFrom k mid new = subst (λ n. IsDrawnFrom n mid new) c.put.ensures.class
    (drawn_from mid.class (shelf * (2 * places mid.class) + 1) c.indexes_of-indexes.result.black shelf men Black c.squares_of-black.result mid new c.put-2.ensures.class (omega arith) len.len black c.squares_of-black.ensures.digits c.put-2.ensures.put c.put-2.ensures.others) in
    let both = both_drawn k old mid new first second in record {
      class = c.put-2.ensures.class ∙ c.put.ensures.class;
      void = still_void k old new both refl c.requires.void;
      kept = still_128 k old new both;
      few = still_few k old new both;
      drawn = λ told side digit digit_in index.
          by_side (λ side digit. digit < places k → ¬ IsVoid k (code_of k (number_in k shelf side digit)) → slice_index new.scores (code_of k (number_in k shelf side digit)) ≡ 128)
          (λ digit digit_in index. still_128 k mid new second (code_of k (number_in k shelf White digit))
          (drawn_side k (shelf * (2 * places k)) c.indexes_of-indexes.result.white shelf men White c.squares_of-white.result old mid c.put.ensures.class (omega arith) is.len white c.squares_of-white.ensures.digits c.put.ensures.put c.put.ensures.others digit digit_in index))
          (λ digit. subst (λ n. digit < places n → ¬ IsVoid n (code_of n (number_in n shelf Black digit)) → slice_index new.scores (code_of n (number_in n shelf Black digit)) ≡ 128) c.put.ensures.class
          (drawn_side mid.class (shelf * (2 * places mid.class) + 1) c.indexes_of-indexes.result.black shelf men Black c.squares_of-black.result mid new c.put-2.ensures.class (omega arith) len.len black c.squares_of-black.ensures.digits c.put-2.ensures.put c.put-2.ensures.others digit))
          side digit digit_in (subst (λ n. ¬ IsVoid n (code_of k (number_in k shelf side digit))) (c.put-2.ensures.class ∙ c.put.ensures.class) index);
    }
