use Rattle.std.proofs.Common.{◌≡◌, ◌⊎◌, ◌∙◌, ◌*◌, ◌+◌, ◌<◌, [], ap, arith, length, sym, subst, slice_index, slice_set}
use Rattle.std.proofs.Common.{slice_index_or}
use Rattle.egt_check.specs.Prelude.{get_or_default, side_number, code_of, kind_less, IsShelf, IsWithin, number_in}
use Rattle.egt_check.specs.Prelude.{size_of, CodeScores, IsLaneIn, scores_in}
use Rattle.egt_check.proofs.ScoreRowsRead.{put_lanes, put_others, scores_long}
use Rattle.egt_check.proofs.score_rows.ScoreRows.put.Goals as goal

pub returns : goal.returns
returns c =
    let inside = c.self.inside in
    let rows = inside.rows.items in
    let men = c.args.men.now in
    let class = inside.class in
    let shelf = c.args.shelf in
    let side = c.args.side in
    let laws = c.numbers_stand_for_codes.ensures in
    let known = c.self.invariant.below in
    let is = subst (λ (v : CodeScores). IsShelf v.class shelf men) (sym c.self.view_is) c.requires.shelf in
    let within = subst (λ (v : CodeScores). IsWithin v.class shelf) (sym c.self.view_is) c.requires.within in
    let at = c.row_place-place.ensures.is in
    let below : c.row_place-place.result < length rows = (let long = c.self.invariant.long in let in_rows = c.row_place-place.ensures.within in omega (arith, long, in_rows)) in
    let old_is : c.index.result.now ≡ slice_index_or rows (side_number side * inside.shelves + shelf) [] =
    c.index.ensures ∙ get_or_default rows c.row_place-place.result c.index.result.now [] below ∙ ap (λ p. slice_index_or rows p []) at in record {
      class = ap (λ (v : CodeScores). v.class) c.self.view_is;
      long =
          subst (λ (v : CodeScores). length (scores_in inside.class (kind_less inside.last.kind) inside.shelves (slice_set inside.rows.items c.row_place-place.result c.chosen.result)) ≡ size_of v.class) c.self.view_is
          (scores_long inside.class (kind_less inside.last.kind) inside.shelves (slice_set inside.rows.items c.row_place-place.result c.chosen.result));
      put = λ digit digit_in has.
          subst (λ (v : CodeScores). slice_index (scores_in class (kind_less inside.last.kind) inside.shelves (slice_set rows c.row_place-place.result c.chosen.result)) (code_of v.class (number_in v.class shelf side digit)) ≡ slice_index c.args.scores (digit + kind_less men.last.kind)) c.self.view_is
          (subst (λ p. slice_index (scores_in class (kind_less inside.last.kind) inside.shelves (slice_set rows p c.chosen.result)) (code_of class (number_in class shelf side digit)) ≡ slice_index c.args.scores (digit + kind_less men.last.kind)) (sym at)
          (put_lanes class inside.shelves inside.last rows c.self.invariant men shelf side is within (λ n. laws.coded class n known) (λ n. laws.number class n known)
          c.index.result.now c.chosen.result c.args.scores c.args.mask c.args.lanes old_is c.chosen.ensures c.requires.mask digit digit_in has));
      others = λ code.
          subst (λ (v : CodeScores). (slice_index (scores_in class (kind_less inside.last.kind) inside.shelves (slice_set rows c.row_place-place.result c.chosen.result)) code ≡ slice_index v.scores code) ⊎ IsLaneIn v.class men shelf side c.args.lanes code) c.self.view_is
          (subst (λ p. (slice_index (scores_in class (kind_less inside.last.kind) inside.shelves (slice_set rows p c.chosen.result)) code ≡ slice_index (scores_in class (kind_less inside.last.kind) inside.shelves rows) code) ⊎ IsLaneIn class men shelf side c.args.lanes code) (sym at)
          (put_others class inside.shelves inside.last rows c.self.invariant men shelf side is within (λ n. laws.coded class n known) (λ n. laws.number class n known)
          c.index.result.now c.chosen.result c.args.scores c.args.mask c.args.lanes old_is c.chosen.ensures c.requires.mask
          (λ i. laws.code class i known) (λ i. laws.within class i known) code));
    }
